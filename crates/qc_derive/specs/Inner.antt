-- Words of the contracts of private functions: what a walk through trees answers.
pub mod Walks
