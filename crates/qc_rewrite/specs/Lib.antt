pub mod Closure
pub mod Inner
