pub mod Inputs
pub mod Instances
pub mod Kept
pub mod Loaded
pub mod Steps
