pub mod Stores
pub mod Numbers
pub mod Chains
pub mod Effects
pub mod Lengths
pub mod Quiet
