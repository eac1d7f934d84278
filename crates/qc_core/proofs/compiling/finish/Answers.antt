use Rattle.std.proofs.Common.{rules, subst}
use Rattle.std.specs.Prelude.{string_bytes}
use Rattle.qc_core.specs.Compilation.{image_and_line}
use Rattle.qc_core.specs.Leaves.{Outside, Performs, outside_of}
use Rattle.qc_core.proofs.Leaving.{performs_stored}
use Rattle.qc_core.proofs.compiling.finish.Goals as goal

pub returns-in-Ok-write-clause-performs : goal.returns-in-Ok-write-clause-performs
returns-in-Ok-write-clause-performs g c =
    let name = string_bytes c.args.name.now in
    let old : Outside = outside_of (g.S.Shelf.files c.args.shelf.now) (g.S.Shelf.faults c.args.shelf.now) (g.O.Out.pieces c.args.out.now) (g.O.Out.faults c.args.out.now) in
    let new : Outside = outside_of (g.S.Shelf.files c.write.new.self) (g.S.Shelf.faults c.write.new.self) (g.O.Out.pieces c.report_image.new.out) (g.O.Out.faults c.report_image.new.out) in
    subst (λ image. Performs (image_and_line name image) old new c.report_image.result) c.in-Ok.ensures.image
    (performs_stored (image_and_line name c.in-Ok.both.0) old new c.report_image.result (search rules) c.report_image.ensures.puts)
