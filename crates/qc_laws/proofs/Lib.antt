pub mod Making
pub mod Nested
pub mod Standing
