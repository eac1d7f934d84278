use Rattle.qc_join.proofs.Whole.{whole}
use Rattle.qc_join.proofs.laws.parts_are_whole.Goals as goal

pub returns : goal.returns
returns c = whole
