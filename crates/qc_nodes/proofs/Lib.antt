pub mod Found
pub mod Missing
pub mod Parts
pub mod Widths
