use Rattle.std.proofs.Common.{refl, arith, suc, subst, ◌∙◌, ◌+◌, ◌≡◌}
use Rattle.qc_core.specs.Inner.Running.{PutsWords}
use Rattle.qc_core.specs.Puts.{Output, output_of}
use Rattle.qc_core.specs.Runs.{machine_process}
use Rattle.qc_core.proofs.ProcessRuns.{machine_rests, machine_total, no_step, step_put, words_stay, words_stop}
use Rattle.qc_core.proofs.running.put_words.Goals as goal

pub loop-step-init : goal.loop-step-init
loop-step-init g c = record {
  words = no_step (machine_process c.args.descr.now) c.args.machine.now (output_of (g.O.Out.pieces c.args.out.now) (g.O.Out.faults c.args.out.now));
  running = c.requires.running;
  made = c.requires.made;
  cached = c.new-cache.ensures c.args.descr.now;
  kept = refl;
  later = omega arith;
}

pub put_step-requires-clause-made : goal.put_step-requires-clause-made
put_step-requires-clause-made g c = c.loop-step.invariant.made

pub put_step-requires-clause-running : goal.put_step-requires-clause-running
put_step-requires-clause-running g c = c.loop-step.invariant.running

pub returns-in-Ok-false-clause-words : goal.returns-in-Ok-false-clause-words
returns-in-Ok-false-clause-words g c =
    let p = machine_process c.args.descr.now in
    let old : Output = output_of (g.O.Out.pieces c.args.out.now) (g.O.Out.faults c.args.out.now) in
    let mid : Output = output_of (g.O.Out.pieces c.loop-step.out) (g.O.Out.faults c.loop-step.out) in
    let new : Output = output_of (g.O.Out.pieces c.put_step.new.out) (g.O.Out.faults c.put_step.new.out) in
    let step = c.in-Ok-false.ensures.ends c.in-Ok-false.field-0-test in
    words_stay p (machine_rests c.args.descr.now) c.args.machine.now c.put_step.new.machine (suc c.loop-step._step) c.args.steps old new
    (omega (arith, c.loop-step-test.true)) step.stands
    (step_put p c.args.machine.now c.loop-step.machine c.put_step.new.machine c.loop-step._step old mid new c.loop-step.invariant.words step)

pub returns-in-Err-clause-stops : goal.returns-in-Err-clause-stops
returns-in-Err-clause-stops g c =
    let old : Output = output_of (g.O.Out.pieces c.args.out.now) (g.O.Out.faults c.args.out.now) in
    let mid : Output = output_of (g.O.Out.pieces c.loop-step.out) (g.O.Out.faults c.loop-step.out) in
    let new : Output = output_of (g.O.Out.pieces c.put_step.new.out) (g.O.Out.faults c.put_step.new.out) in
    words_stop (machine_process c.args.descr.now) (machine_total c.some_outcome.ensures c.args.descr.now) c.args.machine.now c.loop-step.machine c.put_step.new.machine c.loop-step._step c.args.steps old mid new c.in-Err.status
    (omega (arith, c.loop-step-test.true)) c.loop-step.invariant.kept c.loop-step.invariant.words c.in-Err.ensures.stops

pub loop-step-preserved : goal.loop-step-preserved
loop-step-preserved g c =
    let p = machine_process c.args.descr.now in
    let old : Output = output_of (g.O.Out.pieces c.args.out.now) (g.O.Out.faults c.args.out.now) in
    let mid : Output = output_of (g.O.Out.pieces c.loop-step.out) (g.O.Out.faults c.loop-step.out) in
    let new : Output = output_of (g.O.Out.pieces c.put_step.new.out) (g.O.Out.faults c.put_step.new.out) in
    let step = c.in-Ok-true.ensures.goes_on c.in-Ok-true.field-0-test in
    let next : suc c.loop-step._step ≡ c.loop-step._step + 1 = omega arith in
    record {
      words = subst (λ n. PutsWords p c.args.machine.now c.put_step.new.machine n old new) next
          (step_put p c.args.machine.now c.loop-step.machine c.put_step.new.machine c.loop-step._step old mid new c.loop-step.invariant.words step);
      running = step.stands;
      made = c.put_step.ensures.made;
      cached = c.put_step.ensures.cache;
      kept = c.in-Ok-true.ensures.counts.kept ∙ c.loop-step.invariant.kept;
      later = omega (arith, c.put_step.ensures.counts.later, c.loop-step.invariant.later);
    }
