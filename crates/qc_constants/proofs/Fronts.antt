-- Texts that begin with a text.
use Rattle.std.proofs.Common.{◌≡◌, ◌<◌, ◌^◌, ℕ, true, false, List, [], ◌∷◌, ◌++◌, length, take, drop, refl, sym, ◌∙◌, arith, append_assoc, nat_eq, eqb-true, eq-eqb}
use Rattle.std.proofs.lemmas.Bool.{and_parts}
use Rattle.std.specs.Fmt.{decimal}
use lib.Pointwise.{pointwise}
use Rattle.std.proofs.lemmas.List.{append_cancel_left}
use Rattle.std.proofs.lemmas.Fmt.{digits_decimal, decimal_injective}
use Rattle.qc_constants.specs.Inner.DigitRuns.{begins_with_digit}
use Rattle.qc_constants.proofs.Numerals.{own, one_run}

-- a text whose first bytes are the front begins with it
pub strips : (xs front : List ℕ) → pointwise nat_eq (take (length front) xs) front ≡ true → xs ≡ front ++ drop (length front) xs
strips xs [] e = refl
strips [] (b ∷ front) e = cc e
strips (x ∷ xs) (b ∷ front) e =
    let both = and_parts (nat_eq x b) (pointwise nat_eq (take (length front) xs) front) e in
    let first : x ≡ b = eqb-true x b both.0 in
    let rest : xs ≡ front ++ drop (length front) xs = strips xs front both.1 in
    cc (first, rest)

-- and the other way round
pub begins : (front rest : List ℕ) → pointwise nat_eq (take (length front) (front ++ rest)) front ≡ true
begins [] rest = refl
begins (b ∷ front) rest = rw (eq-eqb b b refl, begins front rest) refl

-- a number that a byte follows which is no digit is told from any other
pub one_number : (m n : ℕ) (x y : List ℕ) → m < 2 ^ 32 → n < 2 ^ 32 → begins_with_digit x ≡ false → begins_with_digit y ≡ false → decimal m ++ x ≡ decimal n ++ y → (m ≡ n) × (x ≡ y)
one_number m n x y small small_too stops stops_too e =
    let run = one_run (decimal m) (decimal n) x y (digits_decimal own m (omega arith)) (digits_decimal own n (omega arith)) stops stops_too e in
    (decimal_injective m n (omega arith) (omega arith) run.0, run.1)

-- what stands between a front and what follows
pub digits_after : (front back bytes digits : List ℕ) (n : ℕ) (rest : List ℕ) → bytes ≡ front ++ digits → bytes ≡ front ++ decimal n ++ back ++ rest → digits ≡ decimal n ++ (back ++ rest)
digits_after front back bytes digits n rest split e =
    let regroup : front ++ decimal n ++ back ++ rest ≡ front ++ (decimal n ++ (back ++ rest)) = simp append_assoc in
    append_cancel_left front digits (decimal n ++ (back ++ rest)) (sym split ∙ e ∙ regroup)

-- a number between two texts is told from any other
pub one_between : (front back : List ℕ) (m n : ℕ) (x y : List ℕ) → ((rest : List ℕ) → begins_with_digit (back ++ rest) ≡ false) → m < 2 ^ 32 → n < 2 ^ 32 → front ++ decimal m ++ back ++ x ≡ front ++ decimal n ++ back ++ y → (m ≡ n) × (x ≡ y)
one_between front back m n x y stops small small_too e =
    let regroup : front ++ (decimal m ++ (back ++ x)) ≡ front ++ decimal m ++ back ++ x = simp append_assoc in
    let digits = digits_after front back (front ++ (decimal m ++ (back ++ x))) (decimal m ++ (back ++ x)) n y refl (regroup ∙ e) in
    let both = one_number m n (back ++ x) (back ++ y) small small_too (stops x) (stops y) digits in
    (both.0, append_cancel_left back x y both.1)
