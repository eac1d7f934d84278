use Rattle.std.proofs.Common.{◌≡◌, ◌+◌, ◌-◌, ◌≤◌}
use Rattle.qc_cmmtype.specs.Types.{halvings, bits_needed}
use Rattle.qc_cmmtype.proofs.types.bits_needed.Given as goal

abbrev pub invariant-loop-count : goal.invariant-loop-count
invariant-loop-count l = (l.count ≤ 65) × (l.count + halvings (65 - l.count) l.rest ≡ bits_needed l.value)

abbrev pub decreases-loop-count : goal.decreases-loop-count
decreases-loop-count l = 65 - l.count
