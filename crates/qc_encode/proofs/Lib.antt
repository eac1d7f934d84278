pub mod Codable
pub mod Read
pub mod Written
