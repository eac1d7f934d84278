use Rattle.std.proofs.Common.{[]}
use Rattle.qc_core.specs.declared.answer.Status.TheVariants.{NoMemory}
use Rattle.qc_core.specs.Lines.{ending_line}
use Rattle.qc_core.specs.Puts.{Output, output_of}
use Rattle.qc_core.specs.Runs.{machine_process}
use Rattle.qc_core.proofs.ProcessRuns.{run_done, run_stopped, run_unended}
use Rattle.qc_core.proofs.Putting.{none_put}
use Rattle.qc_core.proofs.running.show_run.Goals as goal

pub returns-in-Err-clause-run : goal.returns-in-Err-clause-run
returns-in-Err-clause-run g c =
    let p = machine_process c.args.descr.now in
    let old : Output = output_of (g.O.Out.pieces c.args.out.now) (g.O.Out.faults c.args.out.now) in
    let mid : Output = output_of (g.O.Out.pieces c.put_words.new.out) (g.O.Out.faults c.put_words.new.out) in
    run_stopped p c.args.machine.now c.args.steps old mid c.in-Err.status c.in-Err.ensures.stops

pub returns-in-Err-ending_line-clause-run : goal.returns-in-Err-ending_line-clause-run
returns-in-Err-ending_line-clause-run g c =
    let p = machine_process c.args.descr.now in
    let old : Output = output_of (g.O.Out.pieces c.args.out.now) (g.O.Out.faults c.args.out.now) in
    let mid : Output = output_of (g.O.Out.pieces c.put_words.new.out) (g.O.Out.faults c.put_words.new.out) in
    run_unended p c.args.machine.now c.put_words.new.machine c.args.steps old mid mid NoMemory c.in_default.ensures.counts.kept c.in_default.ensures.words
    (none_put (ending_line c.put_words.new.machine.ending) [] mid)

pub returns-in-Ok-put_line-clause-run : goal.returns-in-Ok-put_line-clause-run
returns-in-Ok-put_line-clause-run g c =
    let p = machine_process c.args.descr.now in
    let old : Output = output_of (g.O.Out.pieces c.args.out.now) (g.O.Out.faults c.args.out.now) in
    let mid : Output = output_of (g.O.Out.pieces c.put_words.new.out) (g.O.Out.faults c.put_words.new.out) in
    let new : Output = output_of (g.O.Out.pieces c.put_line.new.out) (g.O.Out.faults c.put_line.new.out) in
    let put = rw (c.as_bytes.ensures.value, c.in-Ok.ensures, c.state.ensures) at c.in-Ok-put_line.ensures.put in
    run_done p c.args.machine.now c.put_words.new.machine c.args.steps old mid new c.in_default.ensures.words put

pub returns-clause-run : goal.returns-clause-run
returns-clause-run g c =
    let p = machine_process c.args.descr.now in
    let old : Output = output_of (g.O.Out.pieces c.args.out.now) (g.O.Out.faults c.args.out.now) in
    let mid : Output = output_of (g.O.Out.pieces c.put_words.new.out) (g.O.Out.faults c.put_words.new.out) in
    let new : Output = output_of (g.O.Out.pieces c.put_line.new.out) (g.O.Out.faults c.put_line.new.out) in
    let stops = rw (c.as_bytes.ensures.value, c.in-Ok.ensures, c.state.ensures) at c.in-Err-put_line.ensures.stops in
    run_unended p c.args.machine.now c.put_words.new.machine c.args.steps old mid new c.in-Err-put_line.status c.in_default.ensures.counts.kept c.in_default.ensures.words stops
