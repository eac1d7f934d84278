pub mod DecodedOperands
pub mod Instances
