pub mod MemoryFiles
pub mod MemoryOut
