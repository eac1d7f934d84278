pub mod Inner
pub mod Refusal
pub use Rattle.qc_descr.specs.Coding
pub use Rattle.qc_descr.specs.Description
pub use Rattle.qc_descr.specs.Encoding
pub use Rattle.qc_descr.specs.Reach
pub use Rattle.qc_descr.specs.Valid
