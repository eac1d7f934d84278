pub mod Faults
pub mod Tiles
pub mod Trees
pub mod Walks
