-- Lemmas on resolved names that crates above may cite.
--
-- `TwoPasses`: what effects come to by names is what their trees without names come to.
pub mod TwoPasses
