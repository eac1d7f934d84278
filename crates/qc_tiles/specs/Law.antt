-- Laws of tiles, for proofs here and in the crates above: Descriptions has what a valid description gives (`description_facts`,
-- `description_cells`, `description_tiles`), Sound has `tiles_sound`, what holds of each tile of a machine, and Terms has
-- `tree_of-term_of`, that a tree is that of its term.
pub mod Descriptions
pub mod Effects
pub mod Sound
pub mod Terms
