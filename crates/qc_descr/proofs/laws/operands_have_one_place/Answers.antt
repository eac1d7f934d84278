use Rattle.qc_descr.proofs.Once.{not_dropped, one_place}
use Rattle.qc_descr.proofs.laws.operands_have_one_place.Goals as goal

pub returns-clause-one : goal.returns-clause-one
returns-clause-one c = one_place

pub returns-clause-kept : goal.returns-clause-kept
returns-clause-kept c = not_dropped
