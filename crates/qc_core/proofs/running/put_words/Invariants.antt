use Rattle.std.proofs.Common.{◌≡◌, ◌≤◌}
use Rattle.std.specs.Prelude.{None}
use Rattle.qc_descr.specs.Machine.{IsMachineOf}
use Rattle.qc_machine.specs.Cache.{IsCacheOf}
use Rattle.qc_core.specs.Inner.Running.{PutsWords}
use Rattle.qc_core.specs.Puts.{output_of}
use Rattle.qc_core.specs.Runs.{machine_process}
use Rattle.qc_core.proofs.running.put_words.Given as goal

-- the steps so far
abbrev pub invariant-loop-step : goal.invariant-loop-step
invariant-loop-step g l = record {
  words : PutsWords (machine_process l.descr) l.fn.machine l.machine l._step (output_of (g.O.Out.pieces l.fn.out) (g.O.Out.faults l.fn.out)) (output_of (g.O.Out.pieces l.out) (g.O.Out.faults l.out));
  running : l.machine.ending ≡ None;
  made : IsMachineOf l.descr l.machine;
  cached : IsCacheOf l.descr l.cache;
  kept : g.O.Out.faults l.out ≡ g.O.Out.faults l.fn.out;
  later : g.O.Out.faults l.fn.out ≤ g.O.Out.faults l.out;
}
