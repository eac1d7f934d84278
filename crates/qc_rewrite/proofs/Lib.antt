pub mod Each
pub mod Noted
pub mod PartLemmas
pub mod Searching
pub mod Trying
