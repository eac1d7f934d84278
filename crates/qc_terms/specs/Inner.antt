-- What private parts of the code hold between reading all effects of a list and performing them.
pub mod Pending
