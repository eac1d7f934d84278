-- Laws of words, for proofs here and in the crates above: Results has `result_of-lt`, that an operator's value is a word.
pub mod Results
