-- The words of contracts of functions that are private to this crate.
pub mod Counting
pub mod LowerLaws
pub mod Reading
pub mod Running
