-- Numbers in decimal and the runs of digits that they are.
use Rattle.std.proofs.Common.{◌≡◌, ◌<◌, ◌≤◌, ◌+◌, ◌-◌, ◌*◌, ◌^◌, ◌&&◌, ℕ, zero, suc, Bool, true, false, List, [], ◌∷◌, ◌++◌, length, get_or, refl, sym, ap, ◌∙◌, arith, rules, nat_eq, not, eq-eqb}
use Rattle.std.proofs.lemmas.Bool.{and_parts}
use Rattle.std.proofs.lemmas.Bool.Decides.{nat_tests}
use Rattle.std.specs.Char.{is_ascii_digit}
use Rattle.std.specs.Fmt.{decimal}
use Rattle.std.specs.List.{list_all}
use Rattle.std.specs.Option.{SomeIff}
use Rattle.std.specs.Prelude.{Option, None, Some, IfSome, IsNone}
use Rattle.std.proofs.lemmas.Str.Parse.{IsNumeralModel, numerals_by_fold}
use Rattle.std.proofs.lemmas.Fmt.{digits_decimal, digits_value-decimal, decimal-digits_value, decimal_nonempty, first_decimal, decimal_digit}
use Rattle.qc_constants.specs.Inner.DigitRuns.{number_on, begins_with_digit, is_canonical}

-- our tests of digits and our reading of them are std's
pub own : IsNumeralModel (λ ds. list_all is_ascii_digit ds ≡ true) (number_on 0)
own = numerals_by_fold _ (search rules) number_on (search rules)

-- digits only make a number greater
pub number_grows : (n : ℕ) (digits : List ℕ) → n ≤ number_on n digits
number_grows n [] = omega arith
number_grows n (digit ∷ digits) = omega (arith, number_grows (10 * n + (digit - 48)) digits)

-- a text has one longest run of digits at its front
pub one_run : (ds es x y : List ℕ) → list_all is_ascii_digit ds ≡ true → list_all is_ascii_digit es ≡ true → begins_with_digit x ≡ false → begins_with_digit y ≡ false → ds ++ x ≡ es ++ y → (ds ≡ es) × (x ≡ y)
one_run [] [] x y p q no_x no_y e = (refl, e)
one_run [] (c ∷ es) [] y p q no_x no_y e = cc e
one_run [] (c ∷ es) (b ∷ x) y p q no_x no_y e =
    let same : b ≡ c = cc e in
    let digit : is_ascii_digit c ≡ true = (and_parts _ _ q).0 in
    cc (no_x, digit, ap is_ascii_digit same)
one_run (c ∷ ds) [] x [] p q no_x no_y e = cc e
one_run (c ∷ ds) [] x (b ∷ y) p q no_x no_y e =
    let same : c ≡ b = cc e in
    let digit : is_ascii_digit c ≡ true = (and_parts _ _ p).0 in
    cc (no_y, digit, ap is_ascii_digit same)
one_run (c ∷ ds) (b ∷ es) x y p q no_x no_y e =
    let rest : ds ++ x ≡ es ++ y = cc e in
    let first : c ≡ b = cc e in
    let more = one_run ds es x y (and_parts _ _ p).1 (and_parts _ _ q).1 no_x no_y rest in
    let same : c ∷ ds ≡ b ∷ es = cc (first, more.0) in
    (same, more.1)

-- the digits after the first one only make the number greater
pub number_after_first : (n : ℕ) (digits : List ℕ) → 1 ≤ length digits → 10 * n + (get_or digits 0 0 - 48) ≤ number_on n digits
number_after_first n [] some = absurd (omega arith)
number_after_first n (digit ∷ digits) some = number_grows (10 * n + (digit - 48)) digits

first_of_canonical : (ds : List ℕ) → is_canonical ds ≡ true → (0 < length ds) × (get_or ds 0 0 ≡ 48 → length ds ≡ 1)
first_of_canonical [] e = cc e
first_of_canonical (d ∷ []) e = (omega arith, λ zero. refl)
first_of_canonical (d ∷ f ∷ ds) e =
    (omega arith, λ zero. let e48 : nat_eq d 48 ≡ true = eq-eqb d 48 zero in cc (e, ap not e48))

canonical_from_first : (ds : List ℕ) → 0 < length ds → (get_or ds 0 0 ≡ 48 → length ds ≡ 1) → is_canonical ds ≡ true
canonical_from_first [] some one = absurd (omega arith)
canonical_from_first (d ∷ []) some one = refl
canonical_from_first (d ∷ f ∷ ds) some one = grind (arith, nat_tests)

-- a number below 2 ^ 32 is written without a needless zero
pub canonical_decimal : (n : ℕ) → n < 2 ^ 32 → is_canonical (decimal n) ≡ true
canonical_decimal zero small = ap is_canonical (decimal_digit 0 (omega arith))
canonical_decimal (suc n) small =
    canonical_from_first (decimal (suc n)) (decimal_nonempty (suc n) (omega arith)) (λ zero. absurd (omega (arith, first_decimal (suc n) (omega arith) (omega arith))))

-- such digits are what is written of their number
pub decimal_of_digits : (ds : List ℕ) → list_all is_ascii_digit ds ≡ true → is_canonical ds ≡ true → number_on 0 ds < 2 ^ 32 → decimal (number_on 0 ds) ≡ ds
decimal_of_digits ds digits canonical small =
    let first = first_of_canonical ds canonical in decimal-digits_value own ds digits first.0 first.1 (omega arith)

-- and of no other number
pub not_decimal : (ds : List ℕ) (n : ℕ) → (number_on 0 ds < 2 ^ 32 → ⊥) → n < 2 ^ 32 → ds ≡ decimal n → ⊥
not_decimal ds n great small e =
    let value : number_on 0 ds ≡ n = ap (number_on 0) e ∙ digits_value-decimal own n (omega arith) in great (omega arith)

-- what was read of the digits, if anything, is their number
pub read_some : (ds : List ℕ) (r : Option ℕ) → list_all is_ascii_digit ds ≡ true → is_canonical ds ≡ true → SomeIff r (number_on 0 ds < 2 ^ 32) (number_on 0 ds) → IfSome r (λ n. ds ≡ decimal n)
read_some ds None digits canonical h = tt
read_some ds (Some n) digits canonical h = sym (ap decimal h.1 ∙ decimal_of_digits ds digits canonical h.0)

pub read_none : (ds : List ℕ) (r : Option ℕ) → SomeIff r (number_on 0 ds < 2 ^ 32) (number_on 0 ds) → IsNone r → (n : ℕ) → n < 2 ^ 32 → ds ≡ decimal n → ⊥
read_none ds None h none n small e = not_decimal ds n h small e
read_none ds (Some m) h none n small e = cc none

-- a text that begins with a number begins with its digits
pub digits_of_number : (digits rest : List ℕ) (n : ℕ) (after : List ℕ) → list_all is_ascii_digit digits ≡ true → begins_with_digit rest ≡ false → n < 2 ^ 32 → begins_with_digit after ≡ false → digits ++ rest ≡ decimal n ++ after → (digits ≡ decimal n) × (rest ≡ after)
digits_of_number digits rest n after all stops small stops_too e =
    one_run digits (decimal n) rest after all (digits_decimal own n (omega arith)) stops stops_too e
