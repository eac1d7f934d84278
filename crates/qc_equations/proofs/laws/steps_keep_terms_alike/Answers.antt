use Rattle.qc_equations.proofs.Sides.{rewritten_alike, steps_alike}
use Rattle.qc_equations.proofs.laws.steps_keep_terms_alike.Goals as goal

pub returns-clause-once : goal.returns-clause-once
returns-clause-once c = rewritten_alike c.word_laws.ensures c.typed_values_are_words.ensures

pub returns-clause-chained : goal.returns-clause-chained
returns-clause-chained c = steps_alike c.word_laws.ensures c.typed_values_are_words.ensures
