pub mod Bounded
pub mod Printed
pub mod TableText
pub mod Vocabulary
pub mod Written
