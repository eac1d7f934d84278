pub mod Law
pub mod Operators
pub mod Width
pub mod Words
