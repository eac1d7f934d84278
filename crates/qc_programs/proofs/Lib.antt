mod Bodies
mod Grows
