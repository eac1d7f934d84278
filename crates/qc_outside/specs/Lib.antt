pub mod Calls
pub mod FaultCounts
pub mod Files
pub mod MemoryFiles
pub mod MemoryOut
pub mod OutputPieces
