use Rattle.qc_layout.proofs.ImageFiles.{one_image}
use Rattle.qc_layout.proofs.laws.one_image.Goals as goal

pub returns : goal.returns
returns c = one_image
