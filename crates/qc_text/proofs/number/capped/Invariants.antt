use Rattle.std.proofs.Common.{◌≡◌, ◌^◌, ◌≤◌, min, drop}
use Rattle.qc_text.specs.Numerals.{number_on}
use Rattle.qc_text.proofs.number.capped.Given as goal

-- the digits left complete the number, up to the limit
abbrev pub invariant-loop-digit : goal.invariant-loop-digit
invariant-loop-digit l =
    (l.value ≤ 2 ^ 64)
    × (min (number_on l.base l.value (drop l.digit-index l.digits)) (2 ^ 64)
    ≡ min (number_on l.base 0 l.digits) (2 ^ 64))
