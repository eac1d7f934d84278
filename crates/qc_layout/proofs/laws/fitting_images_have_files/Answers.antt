use Rattle.qc_layout.proofs.WrittenImages.{fitting_has_file}
use Rattle.qc_layout.proofs.laws.fitting_images_have_files.Goals as goal

pub returns : goal.returns
returns c = fitting_has_file
