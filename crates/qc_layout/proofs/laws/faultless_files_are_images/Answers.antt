use Rattle.qc_layout.proofs.FoundImages.{some_image}
use Rattle.qc_layout.proofs.laws.faultless_files_are_images.Goals as goal

pub returns : goal.returns
returns c = some_image
