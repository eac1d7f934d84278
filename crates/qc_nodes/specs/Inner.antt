-- Words of the contracts of private functions: what the code's lists are to definitions.
pub mod Steps
pub mod Views
