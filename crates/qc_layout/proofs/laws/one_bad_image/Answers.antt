use Rattle.qc_layout.proofs.FirstFaults.{one_bad_image}
use Rattle.qc_layout.proofs.laws.one_bad_image.Goals as goal

pub returns : goal.returns
returns c = one_bad_image
