pub mod Bytes
pub mod Endings
pub mod Lengths
pub mod Typed
pub mod Widths
