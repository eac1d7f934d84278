pub mod Alternatives
pub mod Expansion
pub mod Faults
pub mod Inner
pub mod Joining
pub mod Names
