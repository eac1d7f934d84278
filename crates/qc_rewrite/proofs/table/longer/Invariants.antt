use Rattle.std.proofs.Common.{◌≡◌, take}
use Rattle.qc_rewrite.proofs.table.longer.Given as goal

abbrev pub invariant-loop-step : goal.invariant-loop-step
invariant-loop-step l = l.more ≡ take l.step-index l.path
