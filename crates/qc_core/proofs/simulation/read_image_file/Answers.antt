use Rattle.std.proofs.Common.{refl, ℕ}
use Rattle.std.specs.Prelude.{Vec}
use Rattle.std.specs.declared.alloc.Global.{Global}
use Rattle.std.proofs.lemmas.Result.{IfOk-weaker}
use Rattle.qc_command.specs.Command.{texts_of}
use Rattle.qc_terms.specs.declared.image.Image.{Image}
use Rattle.qc_core.specs.Runs.{IsImageFault, image_step}
use Rattle.qc_core.specs.Texts.{description_reading}
use Rattle.qc_core.proofs.Checks.{description_good}
use Rattle.qc_core.proofs.Exactness.{image_of_file}
use Rattle.qc_core.proofs.Readings.{file_fails, stepped, unread}
use Rattle.qc_core.proofs.simulation.read_image_file.Goals as goal

pub returns-in-Ok-clause-reads : goal.returns-in-Ok-clause-reads
returns-in-Ok-clause-reads g c =
    let names = texts_of c.args.names.now in
    stepped (description_reading names) (image_step names) (λ (image : Image). (c.args.descr.now, image)) c.args.descr.now c.in-Ok.bytes.items c.image_in.result _ _ _ _
    c.requires.read c.in-Ok.ensures.content c.in-Ok.ensures.files c.in-Ok.ensures.kept
    (IfOk-weaker c.image_in.result _ _ (λ image is. (image, c.in-Ok.ensures.limit, is, refl)) (rw c.as_slice.ensures.value at c.image_in.ensures.image))
    (file_fails 3 (IsImageFault c.args.descr.now) c.in-Ok.bytes.items c.image_in.result c.in-Ok.ensures.limit (rw c.as_slice.ensures.value at c.image_in.ensures.stops))

pub returns-in-Err-clause-reads : goal.returns-in-Err-clause-reads
returns-in-Err-clause-reads g c =
    let names = texts_of c.args.names.now in
    unread (description_reading names) (image_step names) (λ (bytes : Vec ℕ Global). bytes.items) (λ (image : Image). (c.args.descr.now, image)) (description_good names) names (image_of_file names) c.args.descr.now c.in-Err.status _ _ _ _
    c.requires.read c.in-Err.ensures
