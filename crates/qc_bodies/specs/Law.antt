-- Laws of what expressions come to, for proofs here and in the crates above. `related_meanings`: what all that is declared
-- comes to in two ways of making values is related where these keep the relation; `related_value` and `related_done` say it of
-- one expression and of effects, `related_fun` of functions that are handed on. `meaning_at`: what is declared at a number. `valued_at_place`: values that are
-- made node by node are what the expressions at the nodes' places come to.
pub mod Acts
pub mod Declared
pub mod Related
pub mod Several
pub mod Templates
pub mod Valued
