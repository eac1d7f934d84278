use Rattle.qc_meaning.specs.Kinds.{flat_code}
use Rattle.qc_meaning.specs.Law.Homes.{as_many}
use Rattle.qc_meaning.proofs.laws.homed_code_has_the_procedures.Goals as goal

pub returns : goal.returns
returns c = λ d templates x q homed. (
  homed.frame,
  as_many d templates (flat_code d x) homed.homes 0 x.procedures q.procedures homed.lines,
)
