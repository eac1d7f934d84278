use Rattle.qc_equations.proofs.Sides.{laws_alike}
use Rattle.qc_equations.proofs.laws.laws_keep_terms_alike.Goals as goal

pub returns : goal.returns
returns c = laws_alike c.word_laws.ensures c.typed_values_are_words.ensures
