-- What private parts of the code answer: bits that stand where they should, and codings that overlap.
pub mod Overlaps
pub mod Standing
