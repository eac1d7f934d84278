use Rattle.qc_terms.specs.Law.Values.{value_of-lt}
use Rattle.qc_terms.proofs.laws.typed_values_are_words.Goals as goal

pub returns : goal.returns
returns c = value_of-lt
