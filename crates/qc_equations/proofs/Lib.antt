pub mod Matches
pub mod RowValues
pub mod Sides
