-- Numbers in decimal are read as themselves.
use Rattle.std.proofs.Common.{◌≡◌, ◌≤◌, ◌+◌, ◌-◌, ◌*◌, ◌^◌, ◌∙◌, ℕ, min, true, false, List, [], ◌∷◌, inl, refl, ap, arith, rules, nat_eq, if◌then◌else◌, drop}
use Rattle.std.proofs.Math.Bool.{and-false}
use Rattle.std.proofs.lemmas.Bool.{and_parts}
use Rattle.std.proofs.lemmas.Bool.Decides.{nat_tests}
use Rattle.std.proofs.lemmas.Fmt.{decimal_is_IsNumeral_wide}
use Rattle.std.proofs.lemmas.Str.Parse.{IsNumeralModel, numerals_by_fold}
use Rattle.std.specs.Char.{is_ascii_digit}
use Rattle.std.specs.Fmt.{decimal}
use Rattle.std.specs.List.{list_all, starts_with}
use Rattle.std.specs.Prelude.{codes}
use Rattle.qc_text.specs.declared.token.Kind.{Kind}
use Rattle.qc_text.specs.declared.token.Kind.TheVariants.{Name, Prim, Number, Str, Punct, End}
use Rattle.qc_text.specs.Numerals.{digit_value, number_on, number_of}
use Rattle.qc_text.specs.Tokens.{IsTokenText, IsNumberText}
use Rattle.qc_grammar.specs.Spelled.{Respells}
use Rattle.qc_grammar.specs.Printing.{as_text}

-- the number of decimal digits that follow a number
on_ten : ℕ → List ℕ → ℕ
on_ten n [] = n
on_ten n (digit ∷ digits) = on_ten (10 * n + (digit - 48)) digits

own : IsNumeralModel (λ ds. list_all is_ascii_digit ds ≡ true) (on_ten 0)
unfolding on_ten
own = numerals_by_fold _ (search rules) on_ten (search rules)

value_of_digit : (b : ℕ) → is_ascii_digit b ≡ true → digit_value b ≡ b - 48
value_of_digit b e = grind (arith, nat_tests)

same_value : (n : ℕ) (digits : List ℕ) → list_all is_ascii_digit digits ≡ true → number_on 10 n digits ≡ on_ten n digits
unfolding on_ten
same_value n [] all = refl
same_value n (digit ∷ digits) all =
    let both = and_parts (is_ascii_digit digit) (list_all is_ascii_digit digits) all in
    ap (λ v. number_on 10 (10 * n + v) digits) (value_of_digit digit both.0)
    ∙ same_value (10 * n + (digit - 48)) digits both.1

no_x : (b : ℕ) → is_ascii_digit b ≡ true → nat_eq 120 b ≡ false
no_x b e = grind (arith, nat_tests)

plain : (digits : List ℕ) → list_all is_ascii_digit digits ≡ true → starts_with nat_eq digits (codes "0x") ≡ false
plain [] all = refl
plain (a ∷ []) all = and-false (nat_eq 48 a)
plain (a ∷ b ∷ digits) all =
    let both = and_parts (is_ascii_digit a) (list_all is_ascii_digit (b ∷ digits)) all in
    let next = and_parts (is_ascii_digit b) (list_all is_ascii_digit digits) both.1 in
    rw (no_x b next.0) (and-false (nat_eq 48 a))

digits_of_decimal : (n : ℕ) → n ≤ 2 ^ 64 → list_all is_ascii_digit (decimal n) ≡ true
digits_of_decimal n small = own.from (decimal n) (decimal_is_IsNumeral_wide n (omega (arith, small))).0.1

pub number_of_decimal : (n : ℕ) → n ≤ 2 ^ 64 → number_of (decimal n) ≡ n
number_of_decimal n small =
    let numeral = decimal_is_IsNumeral_wide n (omega (arith, small)) in
    let all = digits_of_decimal n small in
    ap (λ b. if b then number_on 16 0 (drop 2 (decimal n)) else number_on 10 0 (decimal n)) (plain (decimal n) all)
    ∙ same_value 0 (decimal n) all ∙ own.same (decimal n) numeral.0.1 ∙ numeral.1

pub decimal_is_number : (n : ℕ) → n ≤ 2 ^ 64 → IsNumberText (decimal n)
decimal_is_number n small = inl ((decimal_is_IsNumeral_wide n (omega (arith, small))).0.0, digits_of_decimal n small)

still_of_kind : (kind : Kind) (given : List ℕ) → IsTokenText kind given → IsTokenText kind (as_text kind given)
still_of_kind Name given is = is
still_of_kind Prim given is = is
still_of_kind Number given is = decimal_is_number (min (number_of given) (2 ^ 64)) (omega arith)
still_of_kind Str given is = is
still_of_kind Punct given is = is
still_of_kind End given is = is

respelled_again : (kind : Kind) (given : List ℕ) → IsTokenText kind given
    → as_text kind (as_text kind given) ≡ as_text kind given
respelled_again Name given is = refl
respelled_again Prim given is = refl
respelled_again Number given is =
    let least : ℕ = min (number_of given) (2 ^ 64) in
    let same : number_of (decimal least) ≡ least = number_of_decimal least (omega arith) in
    ap decimal (ap (λ n. min n (2 ^ 64)) same ∙ omega arith)
respelled_again Str given is = refl
respelled_again Punct given is = refl
respelled_again End given is = refl

same_number : (given : List ℕ) → min (number_of (as_text Number given)) (2 ^ 64) ≡ min (number_of given) (2 ^ 64)
same_number given =
    let least : ℕ = min (number_of given) (2 ^ 64) in
    let same : number_of (decimal least) ≡ least = number_of_decimal least (omega arith) in
    ap (λ n. min n (2 ^ 64)) same ∙ omega arith

-- names and punctuation stay, and numbers keep their values
pub as_text_respells : Respells as_text
as_text_respells = record {
  name = λ given. refl;
  prim = λ given. refl;
  number = λ given. refl;
  value = λ given. same_number given;
  str = λ given. refl;
  punct = λ given. refl;
  of_kind = still_of_kind;
  again = respelled_again;
}
