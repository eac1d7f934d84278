-- Laws of terms and of what runs show, for proofs here and in the crates above. Values: `value_of-lt`, that the value of a
-- typed term is a word, and `loads_are_words`. Runs: of a step function that comes to an end, `steps_below` and `steps_end`;
-- `below_itself`, `below_trans` and `below_more_output`.
pub mod Runs
pub mod Values
