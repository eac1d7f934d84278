pub mod Chain
pub mod Flat
pub mod Inner
