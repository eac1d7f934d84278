use Rattle.std.proofs.Common.{refl, [], ◌∷◌}
use Rattle.qc_command.specs.Command.{texts_of}
use Rattle.qc_descr.specs.declared.description.Description.{Description}
use Rattle.qc_core.specs.Leaves.{Outside, outside_of}
use Rattle.qc_core.specs.Lines.{checked_line}
use Rattle.qc_core.specs.Task.{Product, lines_alone}
use Rattle.qc_core.specs.Texts.{check_task}
use Rattle.qc_core.proofs.Leaving.{leaves_performed, leaves_stopped, performs_stored}
use Rattle.qc_core.proofs.checking.check_command.Goals as goal

pub returns-in-Ok-clause-leaves : goal.returns-in-Ok-clause-leaves
returns-in-Ok-clause-leaves g c =
    let old : Outside = outside_of (g.S.Shelf.files c.args.shelf.now) (g.S.Shelf.faults c.args.shelf.now) (g.O.Out.pieces c.args.out.now) (g.O.Out.faults c.args.out.now) in
    let new : Outside = outside_of (g.S.Shelf.files c.read_description.new.shelf) (g.S.Shelf.faults c.read_description.new.shelf) (g.O.Out.pieces c.report_description.new.out) (g.O.Out.faults c.report_description.new.out) in
    let product : Product = lines_alone (checked_line c.in-Ok.descr ∷ []) in
    leaves_performed (check_task (texts_of c.args.names.now)) old new product c.report_description.result
    (record { input = c.in-Ok.descr; read = c.in-Ok.ensures.reads.read; makes = (c.in-Ok.ensures.valid, refl) })
    (performs_stored product old new c.report_description.result c.in-Ok.ensures.reads.files c.report_description.ensures.puts)

pub returns-in-Err-clause-leaves : goal.returns-in-Err-clause-leaves
returns-in-Err-clause-leaves g c =
    let old : Outside = outside_of (g.S.Shelf.files c.args.shelf.now) (g.S.Shelf.faults c.args.shelf.now) (g.O.Out.pieces c.args.out.now) (g.O.Out.faults c.args.out.now) in
    let new : Outside = outside_of (g.S.Shelf.files c.read_description.new.shelf) (g.S.Shelf.faults c.read_description.new.shelf) (g.O.Out.pieces c.report_stop.new.out) (g.O.Out.faults c.report_stop.new.out) in
    leaves_stopped (check_task (texts_of c.args.names.now)) (λ (d : Description). d) old new c.in-Err.status c.report_stop.result c.in-Err.ensures.reads c.report_stop.ensures.reports
