pub mod Choices
pub mod Law
pub mod Least
pub mod Limits
