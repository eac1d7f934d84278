pub mod Cmm
pub mod Law
pub mod Printed
pub mod Vocabulary
pub mod Weight
pub mod Written
