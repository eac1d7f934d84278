-- Words of the contracts of private functions: registers that values are for, and what makes lines.
pub mod Homes
