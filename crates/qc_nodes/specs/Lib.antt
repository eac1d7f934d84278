pub mod Inner
pub mod Needs
pub mod Tasks
pub mod Trees
