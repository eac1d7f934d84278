use Rattle.qc_meaning.specs.Law.Placings.{code_reached}
use Rattle.qc_meaning.proofs.laws.turns_come_in_time.Goals as goal

pub returns : goal.returns
returns c = code_reached
