use Rattle.qc_descr.proofs.Made
use Rattle.qc_descr.proofs.laws.descriptions_are_valid.Goals as goal

pub returns : goal.returns
returns c = Made.made_valid
