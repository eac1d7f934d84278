use Rattle.qc_constants.proofs.Seven.{text_of_seven, image_of_seven}
use Rattle.qc_constants.proofs.laws.example_of_seven.Goals as goal

pub returns-clause-text : goal.returns-clause-text
returns-clause-text c = text_of_seven

pub returns-clause-image : goal.returns-clause-image
returns-clause-image c = image_of_seven
