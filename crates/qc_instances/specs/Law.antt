-- Laws of expressions where they stand, for proofs here and in the crates above. `comes_where_it_stands`: what is written out
-- of one comes to what it comes to itself.
pub mod Sites
