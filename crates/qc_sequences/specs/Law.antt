-- Lemmas for crates that walk through derivations: by `weight`, with `tree_weight` and `before_weight`, walks end.
pub mod Weights
