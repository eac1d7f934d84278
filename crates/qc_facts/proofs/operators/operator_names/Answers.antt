use Rattle.qc_facts.specs.Facts.{operators}
use Rattle.qc_facts.proofs.operators.operator_names.Goals as goal

pub returns : goal.returns
unfolding operators
returns c = c.names_of.ensures
