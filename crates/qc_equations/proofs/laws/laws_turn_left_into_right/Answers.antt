use Rattle.qc_equations.proofs.Matches.{turns}
use Rattle.qc_equations.proofs.laws.laws_turn_left_into_right.Goals as goal

pub returns : goal.returns
returns c = turns
