-- Words of private contracts.
pub mod Growing
pub mod Parts
pub mod Places
pub mod Tables
