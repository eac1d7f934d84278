pub mod Blocks
pub mod PrintedBlocks
pub mod Sample
pub mod Printed
