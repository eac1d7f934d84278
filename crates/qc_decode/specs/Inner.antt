-- Words of the contracts of private functions.
pub mod OperandsAt
pub mod OperandsOfBytes
