use Rattle.qc_layout.proofs.WrittenImages.{no_fault}
use Rattle.qc_layout.proofs.laws.image_files_are_read.Goals as goal

pub returns : goal.returns
returns c = no_fault
