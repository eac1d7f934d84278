use Rattle.std.proofs.Common.{◌≡◌, ◌+◌, ◌≤◌, drop, length}
use Rattle.qc_resolve.specs.Declarations.{function_items}
use Rattle.qc_widths.proofs.gather.count_functions.Given as goal

-- those so far, and the rest
abbrev pub invariant-loop-item : goal.invariant-loop-item
invariant-loop-item l = (l.count ≤ l.item-index) × (l.count + length (function_items (drop l.item-index l.items)) ≡ length (function_items l.items))
