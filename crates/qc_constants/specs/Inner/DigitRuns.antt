-- Runs of decimal digits.
use Rattle.std.specs.Prelude.{ℕ, ◌+◌, ◌-◌, ◌*◌, List, [], ◌∷◌, Bool, true, false, not, nat_eq}
use Rattle.std.specs.Char.{is_ascii_digit}

-- the number whose decimal digits are those of n and then these
abbrev pub number_on : ℕ → List ℕ → ℕ
number_on n [] = n
number_on n (digit ∷ digits) = number_on (10 * n + (digit - 48)) digits

-- a text begins with a digit
abbrev pub begins_with_digit : List ℕ → Bool
begins_with_digit [] = false
begins_with_digit (byte ∷ bytes) = is_ascii_digit byte

-- digits without a needless zero in front
abbrev pub is_canonical : List ℕ → Bool
is_canonical [] = false
is_canonical (digit ∷ []) = true
is_canonical (digit ∷ next ∷ digits) = not (nat_eq digit 48)
