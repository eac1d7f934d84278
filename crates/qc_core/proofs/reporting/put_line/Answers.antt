use Rattle.std.proofs.Common.{rules}
use Rattle.qc_core.specs.Puts.{Output, output_of}
use Rattle.qc_core.proofs.Putting.{put_failed, put_unput}
use Rattle.qc_core.proofs.reporting.put_line.Goals as goal

pub returns-in-Err-Failed-clause-stops : goal.returns-in-Err-Failed-clause-stops
returns-in-Err-Failed-clause-stops g c =
    let old : Output = output_of (g.O.Out.pieces c.args.out.now) (g.O.Out.faults c.args.out.now) in
    let new : Output = output_of (g.O.Out.pieces c.put.new.self) (g.O.Out.faults c.put.new.self) in
    put_failed c.args.line.now old new (search rules) (search rules)

pub returns-in-Err-NoMemory-clause-stops : goal.returns-in-Err-NoMemory-clause-stops
returns-in-Err-NoMemory-clause-stops g c =
    let old : Output = output_of (g.O.Out.pieces c.args.out.now) (g.O.Out.faults c.args.out.now) in
    let new : Output = output_of (g.O.Out.pieces c.put.new.self) (g.O.Out.faults c.put.new.self) in
    put_unput c.args.line.now old new (search rules)
