use Rattle.qc_names.specs.Law.Tables.{index-none, index-entered, index-there}
use Rattle.qc_names.proofs.laws.entered_names_have_their_places.Goals as goal

pub returns-clause-none : goal.returns-clause-none
returns-clause-none c = index-none

pub returns-clause-next : goal.returns-clause-next
returns-clause-next c = index-entered

pub returns-clause-found : goal.returns-clause-found
returns-clause-found c = index-there
