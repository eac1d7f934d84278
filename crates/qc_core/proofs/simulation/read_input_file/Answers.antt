use Rattle.std.proofs.Common.{refl, ℕ}
use Rattle.std.specs.Prelude.{Vec}
use Rattle.std.specs.declared.alloc.Global.{Global}
use Rattle.std.proofs.lemmas.Result.{IfOk-weaker}
use Rattle.qc_command.specs.Command.{texts_of}
use Rattle.qc_core.specs.Runs.{IsInputFault, image_reading, input_step, setting_of}
use Rattle.qc_core.proofs.Exactness.{image_good, input_of_file}
use Rattle.qc_core.proofs.Readings.{file_fails, stepped, unread}
use Rattle.qc_core.proofs.simulation.read_input_file.Goals as goal

pub returns-in-Ok-clause-reads : goal.returns-in-Ok-clause-reads
returns-in-Ok-clause-reads g c =
    let names = texts_of c.args.names.now in
    stepped (image_reading names) (input_step names) (λ (words : Vec ℕ Global). setting_of c.args.descr.now c.args.image.now words.items) (c.args.descr.now, c.args.image.now) c.in-Ok.bytes.items c.input_in.result _ _ _ _
    c.requires.read c.in-Ok.ensures.content c.in-Ok.ensures.files c.in-Ok.ensures.kept
    (IfOk-weaker c.input_in.result _ _ (λ words is. (words.items, c.in-Ok.ensures.limit, is, refl)) (rw c.as_slice.ensures.value at c.input_in.ensures.input))
    (file_fails 4 (IsInputFault c.args.descr.now.facts.word) c.in-Ok.bytes.items c.input_in.result c.in-Ok.ensures.limit (rw c.as_slice.ensures.value at c.input_in.ensures.stops))

pub returns-in-Err-clause-reads : goal.returns-in-Err-clause-reads
returns-in-Err-clause-reads g c =
    let names = texts_of c.args.names.now in
    unread (image_reading names) (input_step names) (λ (bytes : Vec ℕ Global). bytes.items) (λ (words : Vec ℕ Global). setting_of c.args.descr.now c.args.image.now words.items) (image_good names) names (input_of_file names) (c.args.descr.now, c.args.image.now) c.in-Err.status _ _ _ _
    c.requires.read c.in-Err.ensures
