pub mod Counts
pub mod Limiting
