use Rattle.qc_programs.proofs.Grows.{ended_stays}
use Rattle.qc_programs.proofs.laws.ended_runs_stay.Goals as goal

pub returns : goal.returns
returns c = ended_stays
