pub mod Expanding
pub mod Leading
pub mod Marking
pub mod Placed
pub mod Reducing
pub mod Shaping
pub mod Tasks
pub mod Weighing
