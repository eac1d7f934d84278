use Rattle.std.proofs.Common.{subst, sym}
use Rattle.qc_command.specs.Command.{texts_of}
use Rattle.qc_core.specs.Answer.{CommandLeaves}
use Rattle.qc_core.specs.Leaves.{Outside, outside_of}
use Rattle.qc_core.proofs.command.do_command.Goals as goal

pub returns-in-Check-clause-leaves : goal.returns-in-Check-clause-leaves
returns-in-Check-clause-leaves g c =
    let old : Outside = outside_of (g.S.Shelf.files c.args.shelf.now) (g.S.Shelf.faults c.args.shelf.now) (g.O.Out.pieces c.args.out.now) (g.O.Out.faults c.args.out.now) in
    let new : Outside = outside_of (g.S.Shelf.files c.check_command.new.shelf) (g.S.Shelf.faults c.check_command.new.shelf) (g.O.Out.pieces c.check_command.new.out) (g.O.Out.faults c.check_command.new.out) in
    subst (λ command. CommandLeaves command (texts_of c.args.names.now) old new c.check_command.result) (sym c.in-Check.is) c.check_command.ensures.leaves

pub returns-in-Compile-clause-leaves : goal.returns-in-Compile-clause-leaves
returns-in-Compile-clause-leaves g c =
    let old : Outside = outside_of (g.S.Shelf.files c.args.shelf.now) (g.S.Shelf.faults c.args.shelf.now) (g.O.Out.pieces c.args.out.now) (g.O.Out.faults c.args.out.now) in
    let new : Outside = outside_of (g.S.Shelf.files c.compile_command.new.shelf) (g.S.Shelf.faults c.compile_command.new.shelf) (g.O.Out.pieces c.compile_command.new.out) (g.O.Out.faults c.compile_command.new.out) in
    subst (λ command. CommandLeaves command (texts_of c.args.names.now) old new c.compile_command.result) (sym c.in-Compile.is) c.compile_command.ensures.leaves

pub returns-in-Run-clause-leaves : goal.returns-in-Run-clause-leaves
returns-in-Run-clause-leaves g c =
    let old : Outside = outside_of (g.S.Shelf.files c.args.shelf.now) (g.S.Shelf.faults c.args.shelf.now) (g.O.Out.pieces c.args.out.now) (g.O.Out.faults c.args.out.now) in
    let new : Outside = outside_of (g.S.Shelf.files c.run_command.new.shelf) (g.S.Shelf.faults c.run_command.new.shelf) (g.O.Out.pieces c.run_command.new.out) (g.O.Out.faults c.run_command.new.out) in
    subst (λ command. CommandLeaves command (texts_of c.args.names.now) old new c.run_command.result) (sym c.in-Run.is) c.run_command.ensures.leaves
