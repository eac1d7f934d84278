use Rattle.std.proofs.Common.{arith, refl}
use Rattle.qc_command.specs.Command.{texts_of}
use Rattle.qc_descr.specs.declared.description.Description.{Description}
use Rattle.qc_terms.specs.declared.image.Image.{Image}
use Rattle.qc_core.specs.Runs.{image_reading, image_step}
use Rattle.qc_core.specs.Texts.{description_reading}
use Rattle.qc_core.proofs.Checks.{description_up_to}
use Rattle.qc_core.proofs.Readings.{read_after, same_end, same_value, still_read, stopped}
use Rattle.qc_core.proofs.simulation.read_program_image.Goals as goal

pub read_image_file-requires-clause-read : goal.read_image_file-requires-clause-read
read_image_file-requires-clause-read g c =
    still_read (description_reading (texts_of c.args.names.now)) (λ (d : Description). d) c.in-Ok.descr _ _ _ _ c.in-Ok.ensures.reads

pub returns-in-Err-clause-reads : goal.returns-in-Err-clause-reads
returns-in-Err-clause-reads g c =
    let names = texts_of c.args.names.now in
    stopped (description_reading names) (image_step names) (λ (d : Description). d) (λ (x : Description × Image). (x.0, x.1)) (description_up_to names 3 (omega arith)) c.in-Err.status _ _ _ _
    c.in-Err.ensures.reads

pub returns-in-Ok-read_image_file-clause-reads : goal.returns-in-Ok-read_image_file-clause-reads
returns-in-Ok-read_image_file-clause-reads g c =
    let names = texts_of c.args.names.now in
    same_value (image_reading names) (λ (image : Image). (c.in-Ok.descr, image)) (λ (x : Description × Image). (x.0, x.1)) c.in-Ok-read_image_file.image (c.in-Ok.descr, c.in-Ok-read_image_file.image) _ _ _ _ refl
    (read_after (description_reading names) (λ (d : Description). d) (image_reading names) (λ (image : Image). (c.in-Ok.descr, image)) c.in-Ok.descr _ _ _ _ _ _ _
    c.in-Ok.ensures.reads c.in-Ok-read_image_file.ensures.reads)

pub returns-in-Err-read_image_file-clause-reads : goal.returns-in-Err-read_image_file-clause-reads
returns-in-Err-read_image_file-clause-reads g c =
    let names = texts_of c.args.names.now in
    same_end (image_reading names) (λ (image : Image). (c.in-Ok.descr, image)) (λ (x : Description × Image). (x.0, x.1)) c.in-Err-read_image_file.status _ _ _ _
    (read_after (description_reading names) (λ (d : Description). d) (image_reading names) (λ (image : Image). (c.in-Ok.descr, image)) c.in-Ok.descr _ _ _ _ _ _ _
    c.in-Ok.ensures.reads c.in-Err-read_image_file.ensures.reads)
