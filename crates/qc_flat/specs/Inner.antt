-- Words of the contracts of private functions.
pub mod Links
pub mod Parts
pub mod Pending
