use Rattle.std.proofs.Common.{[]}
use Rattle.qc_core.specs.Lines as lines
use Rattle.qc_core.specs.Puts.{output_of}
use Rattle.qc_core.proofs.Putting.{none_put}
use Rattle.qc_core.proofs.reporting.report_image.Goals as goal

pub returns-in-Err-clause-puts : goal.returns-in-Err-clause-puts
returns-in-Err-clause-puts g c =
    none_put (lines.compiled_line c.args.image.now) [] (output_of (g.O.Out.pieces c.args.out.now) (g.O.Out.faults c.args.out.now))
