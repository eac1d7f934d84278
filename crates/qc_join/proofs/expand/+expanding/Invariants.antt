use Rattle.std.proofs.Common.{◌≡◌, drop}
use Rattle.qc_join.specs.Alternatives.{joined_with}
use Rattle.qc_join.specs.Inner.Expanding.{IsScopeOf, all_expanded}
use Rattle.qc_join.specs.Expansion.{Scope}
use Rattle.qc_join.proofs.expand.+expanding.Given as goal

-- what is put together, with the rest, is what the first is with all
abbrev pub invariant-joined_parts-loop-place : goal.invariant-joined_parts-loop-place
invariant-joined_parts-loop-place l =
    (spec : Scope) → IsScopeOf l.scope spec →
    joined_with l.how l.whole (all_expanded spec (drop l.place l.parts))
    ≡ joined_with l.how l.fn.first (all_expanded spec (drop 1 l.parts))
