use Rattle.qc_cmmtype.proofs.Faultless.{faultless}
use Rattle.qc_cmmtype.proofs.laws.faultless_programs_are_typed.Goals as goal

pub returns : goal.returns
returns c = faultless
