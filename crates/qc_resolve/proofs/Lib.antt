pub mod Written
pub mod Lookups
pub mod Paired
pub mod Kept
pub mod ArgumentLists
pub mod Numbered
