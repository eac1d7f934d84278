-- Least counts that are no more than a limit, found by a search that never looks beyond it.
use Rattle.std.specs.Prelude.{ℕ, ◌+◌, ◌-◌, zero, suc, List, [], ◌∷◌, map, nat_le, Option, None, Some, option_and_then, if◌then◌else◌}
use Rattle.std.specs.Option.{option_map}
use Rattle.qc_derivations.specs.Goals.{Need}
use Rattle.qc_least.specs.Choices.{least_among, plus}

-- the count, if it is no more than the limit
abbrev pub within : ℕ → Option ℕ → Option ℕ
within limit None = None
within limit (Some count) = if nat_le count limit then Some count else None

-- The sum of the counts of needs. Each need is asked for no more than those before it leave of the limit.
abbrev pub limited_sum : (ℕ → Need → Option ℕ) → ℕ → List Need → Option ℕ
limited_sum asked limit [] = Some 0
limited_sum asked limit (need ∷ needs) =
    option_and_then (λ m. option_map (λ n. m + n) (limited_sum asked (limit - m) needs)) (asked limit need)

-- The least count for a need within a height, if it is no more than the limit. A node takes one of the limit.
abbrev pub limited_of : (Need → List (List Need)) → (height limit : ℕ) → Need → Option ℕ
limited_of choices zero limit need = None
limited_of choices (suc height) zero need = None
limited_of choices (suc height) (suc limit) need =
    least_among (map (λ inner. plus (Some 1) (limited_sum (limited_of choices height) limit inner)) (choices need))
