use Rattle.qc_programs.proofs.Bodies.{have_bodies}
use Rattle.qc_programs.proofs.laws.procedures_have_bodies.Goals as goal

pub returns : goal.returns
returns c = have_bodies
