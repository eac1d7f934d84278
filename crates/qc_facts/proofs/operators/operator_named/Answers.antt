use Rattle.qc_facts.specs.Facts.{operators, operator_named}
use Rattle.qc_facts.proofs.operators.operator_named.Goals as goal

pub returns : goal.returns
unfolding operators operator_named
returns c = c.paired_operator.ensures
