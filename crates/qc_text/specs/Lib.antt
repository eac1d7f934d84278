pub mod Inner
pub mod Law
pub mod Numerals
pub mod Pieces
pub mod PrintedWords
pub mod Tokens
