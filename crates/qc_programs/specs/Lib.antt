pub mod Examples
pub mod Resolved
pub mod Steps
pub mod Todo
pub mod Values
