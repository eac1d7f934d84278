-- Laws of derivations, for proofs here and in the crates above. Forest: `grows_of-tree`, a derivation's tree by its parts. Same: `same_tree-same` and `same_tree-refl`, that the test of
-- trees holds of equal ones alone.
pub mod Forest
pub mod Same
