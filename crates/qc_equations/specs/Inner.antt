-- Vocabulary of private contracts.
pub mod WordLaws
