pub mod Decimals
pub mod Lexemes
pub mod Names
pub mod Scanned
pub mod Writing
