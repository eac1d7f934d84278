-- What the private parts of the scanner answer.
pub mod Scanning
