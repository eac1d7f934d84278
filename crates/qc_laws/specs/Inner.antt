-- What private contracts cite.
pub mod Ids
pub mod Forms
pub mod Spelling
