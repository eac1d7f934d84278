use Rattle.qc_descr.proofs.laws.one_instance.Goals as goal
use Rattle.qc_descr.proofs.Uniqueness

pub returns : goal.returns
returns c = Uniqueness.one_instance
