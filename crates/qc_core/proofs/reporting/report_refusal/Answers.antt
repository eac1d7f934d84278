use Rattle.std.proofs.Common.{rules, refl, inr}
use Rattle.qc_core.specs.Lines as lines
use Rattle.qc_core.specs.Puts.{Output, output_of}
use Rattle.qc_core.proofs.Putting.{put_failed}
use Rattle.qc_core.proofs.reporting.report_refusal.Goals as goal

pub returns-in-Err-Failed-clause-reports : goal.returns-in-Err-Failed-clause-reports
returns-in-Err-Failed-clause-reports g c =
    let old : Output = output_of (g.O.Out.pieces c.args.out.now) (g.O.Out.faults c.args.out.now) in
    let new : Output = output_of (g.O.Out.pieces c.put.new.self) (g.O.Out.faults c.put.new.self) in
    (refl, inr (put_failed (lines.refusal_line c.args.fault) old new (search rules) (search rules)))
