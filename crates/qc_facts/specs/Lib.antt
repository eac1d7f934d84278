pub mod Facts
pub mod Faults
pub mod Law
pub mod Numbers
pub mod SpaceTables
pub mod Values
