use Rattle.qc_constants.proofs.Emitted.{image_fits}
use Rattle.qc_constants.proofs.Agreement.{agreement}
use Rattle.qc_constants.proofs.laws.images_agree.Goals as goal

pub returns-clause-fits : goal.returns-clause-fits
returns-clause-fits c = λ d p valid has program. image_fits d valid has p program

pub returns-clause-agrees : goal.returns-clause-agrees
returns-clause-agrees c = λ d p valid has program. agreement d valid has c.one_instance.ensures p program
