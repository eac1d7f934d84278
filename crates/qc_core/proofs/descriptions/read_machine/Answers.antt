use Rattle.std.proofs.Common.{refl, ℕ}
use Rattle.std.specs.Prelude.{Vec}
use Rattle.std.specs.declared.alloc.Global.{Global}
use Rattle.std.proofs.lemmas.Result.{IfOk-weaker}
use Rattle.qc_command.specs.Command.{texts_of}
use Rattle.qc_widths.specs.declared.machine.Machine.{Machine}
use Rattle.qc_core.specs.CommandFiles.{no_file}
use Rattle.qc_core.specs.Texts.{IsMachineFault, machine_step}
use Rattle.qc_core.proofs.Checks.{machine_of_file}
use Rattle.qc_core.proofs.Readings.{always, file_fails, stepped, unread}
use Rattle.qc_core.proofs.descriptions.read_machine.Goals as goal

pub returns-in-Ok-clause-reads : goal.returns-in-Ok-clause-reads
returns-in-Ok-clause-reads g c =
    stepped no_file (machine_step (texts_of c.args.names.now)) (λ (machine : Machine). machine) tt c.in-Ok.bytes.items c.machine_in.result _ _ _ _
    (always _ (g.S.Shelf.files c.args.shelf.now) (λ files. tt)) c.in-Ok.ensures.content c.in-Ok.ensures.files c.in-Ok.ensures.kept
    (IfOk-weaker c.machine_in.result _ _ (λ machine is. (machine, c.in-Ok.ensures.limit, is, refl)) (rw c.as_slice.ensures.value at c.machine_in.ensures.machine))
    (file_fails 1 (IsMachineFault 1) c.in-Ok.bytes.items c.machine_in.result c.in-Ok.ensures.limit (rw c.as_slice.ensures.value at c.machine_in.ensures.stops))

pub returns-in-Err-clause-reads : goal.returns-in-Err-clause-reads
returns-in-Err-clause-reads g c =
    let names = texts_of c.args.names.now in
    unread no_file (machine_step names) (λ (bytes : Vec ℕ Global). bytes.items) (λ (machine : Machine). machine) (λ files nothing file means. tt) names (machine_of_file names) tt c.in-Err.status _ _ _ _
    (always _ (g.S.Shelf.files c.args.shelf.now) (λ files. tt)) c.in-Err.ensures
