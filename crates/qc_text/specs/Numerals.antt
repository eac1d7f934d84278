-- The numbers that numerals stand for.
use Rattle.std.specs.Prelude.{ℕ, ◌+◌, ◌-◌, ◌*◌, nat_eq, nat_lt, if◌then◌else◌, List, [], ◌∷◌, codes, drop}
use Rattle.std.specs.List.{starts_with}

-- `0` to `9` are 0 to 9, and `A` to `F` and `a` to `f` are 10 to 15
abbrev pub digit_value : ℕ → ℕ
digit_value b = if nat_lt b 65 then b - 48 else if nat_lt b 97 then b - 55 else b - 87

-- the number whose digits in the base are those of a number and then these
abbrev pub number_on : ℕ → ℕ → List ℕ → ℕ
number_on base n [] = n
number_on base n (digit ∷ digits) = number_on base (base * n + digit_value digit) digits

-- A number behind `0x` is in base 16, another one in base 10.
abbrev pub number_of : List ℕ → ℕ
number_of text = if starts_with nat_eq text (codes "0x") then number_on 16 0 (drop 2 text) else number_on 10 0 text
