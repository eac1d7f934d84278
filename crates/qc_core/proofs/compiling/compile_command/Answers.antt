use Rattle.std.proofs.Common.{refl}
use Rattle.qc_command.specs.Command.{texts_of}
use Rattle.qc_constants.specs.Code.{image_of}
use Rattle.qc_constants.specs.declared.program.ConstantProgram.{ConstantProgram}
use Rattle.qc_descr.specs.declared.description.Description.{Description}
use Rattle.qc_outside.specs.Files.{name_of}
use Rattle.qc_core.specs.Compilation.{compile_task, image_and_line}
use Rattle.qc_core.specs.Leaves.{Outside, outside_of}
use Rattle.qc_core.specs.Task.{Product}
use Rattle.qc_core.proofs.Leaving.{leaves_performed, leaves_stopped}
use Rattle.qc_core.proofs.compiling.compile_command.Goals as goal

pub returns-in-Ok-clause-leaves : goal.returns-in-Ok-clause-leaves
returns-in-Ok-clause-leaves g c =
    let old : Outside = outside_of (g.S.Shelf.files c.args.shelf.now) (g.S.Shelf.faults c.args.shelf.now) (g.O.Out.pieces c.args.out.now) (g.O.Out.faults c.args.out.now) in
    let new : Outside = outside_of (g.S.Shelf.files c.finish.new.shelf) (g.S.Shelf.faults c.finish.new.shelf) (g.O.Out.pieces c.finish.new.out) (g.O.Out.faults c.finish.new.out) in
    let names = texts_of c.args.names.now in
    let product : Product = image_and_line (name_of names 5) (image_of c.in-Ok.descr c.in-Ok.program) in
    leaves_performed (compile_task names) old new product c.finish.result
    (record {
      input = (c.in-Ok.descr, c.in-Ok.program);
      read = c.in-Ok.ensures.reads.read;
      makes = record { valid = c.in-Ok.ensures.valid; constants = c.in-Ok.ensures.constants; small = c.in-Ok.ensures.program; is = refl };
    })
    (rw (c.in-Ok.ensures.reads.files, c.in-Ok.ensures.reads.kept, c.file_word.ensures) at c.finish.ensures.performs)

pub returns-in-Err-clause-leaves : goal.returns-in-Err-clause-leaves
returns-in-Err-clause-leaves g c =
    let old : Outside = outside_of (g.S.Shelf.files c.args.shelf.now) (g.S.Shelf.faults c.args.shelf.now) (g.O.Out.pieces c.args.out.now) (g.O.Out.faults c.args.out.now) in
    let new : Outside = outside_of (g.S.Shelf.files c.read_compilation.new.shelf) (g.S.Shelf.faults c.read_compilation.new.shelf) (g.O.Out.pieces c.report_stop.new.out) (g.O.Out.faults c.report_stop.new.out) in
    leaves_stopped (compile_task (texts_of c.args.names.now)) (λ (x : Description × ConstantProgram). (x.0, x.1)) old new c.in-Err.status c.report_stop.result c.in-Err.ensures.reads c.report_stop.ensures.reports
