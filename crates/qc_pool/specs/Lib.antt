pub mod Code
pub mod Entries
pub mod Law
pub mod Nodes
pub mod Regions
pub mod Widths
pub use Rattle.qc_terms.specs.Tree
