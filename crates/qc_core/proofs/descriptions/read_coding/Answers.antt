use Rattle.std.proofs.Common.{refl, ℕ}
use Rattle.std.specs.Prelude.{Vec}
use Rattle.std.specs.declared.alloc.Global.{Global}
use Rattle.std.proofs.lemmas.Result.{IfOk-weaker}
use Rattle.qc_command.specs.Command.{texts_of}
use Rattle.qc_descr.specs.declared.description.Description.{Description}
use Rattle.qc_core.specs.Texts.{IsCodingFault, coding_step, machine_reading}
use Rattle.qc_core.proofs.Checks.{coding_of_file, machine_good}
use Rattle.qc_core.proofs.Readings.{file_fails, stepped, unread}
use Rattle.qc_core.proofs.descriptions.read_coding.Goals as goal

pub returns-in-Ok-clause-reads : goal.returns-in-Ok-clause-reads
returns-in-Ok-clause-reads g c =
    let names = texts_of c.args.names.now in
    stepped (machine_reading names) (coding_step names) (λ (d : Description). d) c.args.machine c.in-Ok.bytes.items c.description_in.result _ _ _ _
    c.requires.read c.in-Ok.ensures.content c.in-Ok.ensures.files c.in-Ok.ensures.kept
    (IfOk-weaker c.description_in.result _ _ (λ d is. (d, c.in-Ok.ensures.limit, is, refl)) (rw c.as_slice.ensures.value at c.description_in.ensures.description))
    (file_fails 2 (IsCodingFault c.args.machine 2) c.in-Ok.bytes.items c.description_in.result c.in-Ok.ensures.limit (rw c.as_slice.ensures.value at c.description_in.ensures.stops))

pub returns-in-Err-clause-reads : goal.returns-in-Err-clause-reads
returns-in-Err-clause-reads g c =
    let names = texts_of c.args.names.now in
    unread (machine_reading names) (coding_step names) (λ (bytes : Vec ℕ Global). bytes.items) (λ (d : Description). d) (machine_good names) names (coding_of_file names) c.args.machine c.in-Err.status _ _ _ _
    c.requires.read c.in-Err.ensures
