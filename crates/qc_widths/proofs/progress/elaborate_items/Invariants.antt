use Rattle.std.proofs.Common.{◌≤◌, drop}
use Rattle.qc_widths.specs.Inner.Elaboration.{IsBehind}
use Rattle.qc_widths.proofs.progress.elaborate_items.Given as goal

abbrev pub invariant-loop-item : goal.invariant-loop-item
invariant-loop-item l = record {
  functions : l.progress.counts.functions ≤ l.item-index;
  instructions : l.progress.counts.instructions ≤ l.item-index;
  spaces : l.progress.counts.spaces ≤ l.item-index;
  behind : IsBehind l.context l.progress (drop l.item-index l.items);
}
