pub mod Arguments
pub mod Cores
pub mod Declared
pub mod Lookups
