-- Words of contracts of private functions.
pub mod Arguments
pub mod OwnNames
pub mod Scopes
