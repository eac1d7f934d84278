use Rattle.qc_descr.proofs.Complete.{complete_faultless}
use Rattle.qc_descr.proofs.laws.valid_parts_have_no_fault.Goals as goal

pub returns : goal.returns
returns c = complete_faultless
