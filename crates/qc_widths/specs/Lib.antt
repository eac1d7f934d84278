pub mod GivenFacts
pub mod Inner
pub mod Machine
pub mod TextFaults
