use Rattle.qc_terms.proofs.Endings.{told_ending}
use Rattle.qc_terms.proofs.laws.events_tell_endings.Goals as goal

pub returns : goal.returns
returns c = told_ending
