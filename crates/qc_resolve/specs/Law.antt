-- Lemmas on names and expressions that crates above may cite.
--
-- `Expressions`: the ruleset `laws`, what an expression of each sort is.
--
-- `Earlier`: the signatures of the first functions are those that stand before an item.
pub mod Earlier
pub mod Expressions
