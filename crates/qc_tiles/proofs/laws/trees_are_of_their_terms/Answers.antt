use Rattle.qc_tiles.specs.Law.Terms.{tree_of-term_of}
use Rattle.qc_tiles.proofs.laws.trees_are_of_their_terms.Goals as goal

pub returns : goal.returns
returns c = tree_of-term_of
