-- Words of contracts of private functions.
pub mod ArgumentFaults
pub mod Numbering
