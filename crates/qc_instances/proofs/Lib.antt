pub mod Anyhow
pub mod Closed
pub mod Lists
