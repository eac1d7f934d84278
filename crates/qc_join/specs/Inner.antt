-- Words of contracts of private functions.
pub mod Constructors
pub mod Expanding
pub mod KeptNames
