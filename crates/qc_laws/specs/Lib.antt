pub mod Inner
pub mod Law
pub mod Given
pub mod Names
