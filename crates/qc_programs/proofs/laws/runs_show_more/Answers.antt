use Rattle.qc_programs.proofs.Grows.{shows_more}
use Rattle.qc_programs.proofs.laws.runs_show_more.Goals as goal

pub returns : goal.returns
returns c = shows_more
