-- Numerals whose value is cut off at a limit.
use Rattle.std.proofs.Common.{ℕ, zero, suc, ◌≡◌, ◌∙◌, ◌+◌, ◌*◌, ◌≤◌, ◌<◌, inl, inr, min, List, [], ◌∷◌, length, drop, get_or, drop-cons, ap, sym, arith}
use Rattle.std.proofs.lemmas.Bool.{cases_lt}
use Rattle.qc_text.specs.Numerals.{digit_value, number_on}

grows : (base n d : ℕ) → 0 < base → n ≤ base * n + d
grows zero n d some = absurd (omega arith)
grows (suc k) n d some = omega arith

number_grows : (base n : ℕ) (digits : List ℕ) → 0 < base → n ≤ number_on base n digits
number_grows base n [] some = omega arith
number_grows base n (digit ∷ digits) some =
    omega (arith, grows base n (digit_value digit) some, number_grows base (base * n + digit_value digit) digits some)

-- a number that reaches the limit may be cut off there, whatever digits follow
pub cut_off : (limit base n : ℕ) (digits : List ℕ) → 0 < base
    → min (number_on base (min limit n) digits) limit ≡ min (number_on base n digits) limit
cut_off limit base n digits some =
    elim (cases_lt limit n) [
      | inl above ↦
          let at_limit : min limit n ≡ limit = omega arith in
          let some_more : limit ≤ number_on base limit digits = number_grows base limit digits some in
          let same : number_on base (min limit n) digits
          ≡ number_on base limit digits = ap (λ k. number_on base k digits) at_limit in
          omega (arith, same, some_more, number_grows base n digits some)
      | inr below ↦
          let same : min limit n ≡ n = omega arith in ap (λ k. min (number_on base k digits) limit) same
    ]

next_digit : (limit base value more : ℕ) (digits : List ℕ) → 0 < base
    → more ≡ min limit (base * value + digit_value (get_or digits 0 0)) → 0 < length digits
    → min (number_on base more (drop 1 digits)) limit ≡ min (number_on base value digits) limit
next_digit limit base value more [] some e within = absurd (omega arith)
next_digit limit base value more (digit ∷ digits) some e within =
    ap (λ k. min (number_on base k digits) limit) e ∙ cut_off limit base (base * value + digit_value digit) digits some

-- one more digit
pub take_digit : (limit base value more index : ℕ) (digits : List ℕ) → 0 < base → index < length digits
    → more ≡ min limit (value * base + digit_value (get_or digits index 0))
    → min (number_on base value (drop index digits)) limit ≡ min (number_on base 0 digits) limit
    → (more ≤ limit) × (min (number_on base more (drop (index + 1) digits)) limit ≡ min (number_on base 0 digits) limit)
take_digit limit base value more index digits some within e before =
    let here : drop index digits ≡ get_or digits index 0 ∷ drop (suc index) digits = drop-cons digits index 0 within in
    let next : suc index ≡ index + 1 = omega arith in
    let product : value * base + digit_value (get_or digits index 0)
    ≡ base * value + digit_value (get_or digits index 0) = omega arith in
    let cut : min (number_on base more (drop (suc index) digits)) limit
    ≡ min (number_on base value (drop index digits)) limit =
    next_digit limit base value more (get_or digits index 0 ∷ drop (suc index) digits) some (e
    ∙ ap (min limit) product) (omega arith)
    ∙ ap (λ xs. min (number_on base value xs) limit) (sym here) in
    (omega arith, ap (λ k. min (number_on base more (drop k digits)) limit) (sym next) ∙ cut ∙ before)
