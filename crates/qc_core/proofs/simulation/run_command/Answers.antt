use Rattle.std.proofs.Common.{refl, ℕ}
use Rattle.std.specs.Prelude.{Vec}
use Rattle.std.specs.declared.alloc.Global.{Global}
use Rattle.qc_command.specs.Command.{texts_of}
use Rattle.qc_descr.specs.declared.description.Description.{Description}
use Rattle.qc_terms.specs.declared.image.Image.{Image}
use Rattle.qc_core.specs.Leaves.{Outside, outside_of}
use Rattle.qc_core.specs.Lines.{run_lines}
use Rattle.qc_core.specs.Runs.{run_task, setting_of}
use Rattle.qc_core.specs.Task.{Product, lines_alone}
use Rattle.qc_core.proofs.Leaving.{leaves_performed, leaves_stopped, performs_stored}
use Rattle.qc_core.proofs.simulation.run_command.Goals as goal

pub returns-in-Ok-clause-leaves : goal.returns-in-Ok-clause-leaves
returns-in-Ok-clause-leaves g c =
    let old : Outside = outside_of (g.S.Shelf.files c.args.shelf.now) (g.S.Shelf.faults c.args.shelf.now) (g.O.Out.pieces c.args.out.now) (g.O.Out.faults c.args.out.now) in
    let new : Outside = outside_of (g.S.Shelf.files c.read_setting.new.shelf) (g.S.Shelf.faults c.read_setting.new.shelf) (g.O.Out.pieces c.run_image.new.out) (g.O.Out.faults c.run_image.new.out) in
    let puts = c.run_image.ensures.puts in
    let product : Product = lines_alone (run_lines puts.seen) in
    leaves_performed (run_task (texts_of c.args.names.now) c.args.steps) old new product c.run_image.result
    (record { input = setting_of c.in-Ok.descr c.in-Ok.image c.in-Ok.input.items; read = c.in-Ok.ensures.reads.read; makes = (puts.seen, puts.shows, refl) })
    (performs_stored product old new c.run_image.result c.in-Ok.ensures.reads.files puts.puts)

pub returns-in-Err-clause-leaves : goal.returns-in-Err-clause-leaves
returns-in-Err-clause-leaves g c =
    let old : Outside = outside_of (g.S.Shelf.files c.args.shelf.now) (g.S.Shelf.faults c.args.shelf.now) (g.O.Out.pieces c.args.out.now) (g.O.Out.faults c.args.out.now) in
    let new : Outside = outside_of (g.S.Shelf.files c.read_setting.new.shelf) (g.S.Shelf.faults c.read_setting.new.shelf) (g.O.Out.pieces c.report_stop.new.out) (g.O.Out.faults c.report_stop.new.out) in
    leaves_stopped (run_task (texts_of c.args.names.now) c.args.steps) (λ (x : Description × Image × Vec ℕ Global). setting_of x.0 x.1 x.2.items) old new c.in-Err.status c.report_stop.result c.in-Err.ensures.reads c.report_stop.ensures.reports
