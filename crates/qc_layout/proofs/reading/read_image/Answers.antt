use Rattle.std.proofs.Common.{subst, sym, ◌∙◌}
use Rattle.qc_layout.specs.ImageFaults.{IsFaultyPlace}
use Rattle.qc_layout.proofs.ImageFiles.{one_image}
use Rattle.qc_layout.proofs.WrittenImages.{no_fault}
use Rattle.qc_layout.proofs.reading.read_image.Goals as goal

pub returns-in-Some-clause-again : goal.returns-in-Some-clause-again
returns-in-Some-clause-again c = λ image has fits e.
    no_fault c.args.descr.now image c.in-Some.at has fits
    (subst (λ bytes. IsFaultyPlace c.args.descr.now bytes c.in-Some.at) e c.in-Some.ensures.some.faulty)

pub returns-in-Ok-clause-again : goal.returns-in-Ok-clause-again
returns-in-Ok-clause-again c = λ image has fits e.
    one_image c.in-Ok.image image c.in-Ok.ensures.lengths has (sym c.in-Ok.ensures.image ∙ e)
