-- Laws of equations, for crates that rewrite: operators that are the same (`same-op`, `op-same`); being alike is kept by
-- chains (`alike-refl`, `alike-trans`) and at each place (`under-unary`, `under-left`, `under-right`, `under-load`); what
-- goes by widths, as being typed does, goes from a term to what a law gives for it (`gives-holds`, `gives-width`), also at a
-- place (`rewritten-holds`); what goes down to operands and up again goes both ways (`gives-carries`, `gives-carries-back`);
-- one induction over places, for any change of terms, and one over steps, for any relation (`at-place`, `at-steps`). Fill
-- has the trees of patterns, Found what the search for a law's parts finds, Rows each row over numbers.
pub mod Alike
pub mod Carried
pub mod Fill
pub mod Found
pub mod Operators
pub mod Places
pub mod Rows
pub mod Widths
