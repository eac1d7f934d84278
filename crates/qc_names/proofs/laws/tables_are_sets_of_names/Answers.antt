use Rattle.qc_names.specs.Law.Tables.{names-any, entered-any, names-entered}
use Rattle.qc_names.proofs.laws.tables_are_sets_of_names.Goals as goal

pub returns-clause-names : goal.returns-clause-names
returns-clause-names c = names-any

pub returns-clause-more : goal.returns-clause-more
returns-clause-more c = entered-any

pub returns-clause-listed : goal.returns-clause-listed
returns-clause-listed c = names-entered
