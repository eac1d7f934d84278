-- Words of the contracts of private functions.
pub mod Expanding
pub mod Marking
pub mod Reducing
pub mod Weighing
