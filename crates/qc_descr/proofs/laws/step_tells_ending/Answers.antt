use Rattle.qc_descr.proofs.Endings.{step_ending}
use Rattle.qc_descr.proofs.laws.step_tells_ending.Goals as goal

pub returns : goal.returns
returns c = step_ending c.events_tell_endings.ensures
