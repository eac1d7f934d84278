-- Lemmas on the operators' values at words of any width.
use Rattle.std.proofs.Common.{◌≡◌, ℕ, ℤ, pos, negsuc, nat_lt, nat_le, int_lt, int_le, not, refl, sym, ap, ◌∙◌, ◌-◌, ◌==◌, Bool, true, false, arith}
use Rattle.qc_words.specs.Words.{signed_of}
use Rattle.qc_words.specs.Operators.{result_of, truth_of}
use Rattle.qc_words.specs.declared.operator.Op.TheVariants.{Eq, Ne, Lt, Ge, Ltu, Geu}

-- ---- comparisons

truth_of-not : (test : Bool) → truth_of (not test) ≡ 1 - truth_of test
truth_of-not true = refl
truth_of-not false = refl

nat_le-not : (a b : ℕ) → nat_le b a ≡ not (nat_lt a b)
nat_le-not a b = grind arith

int_le-not : (x y : ℤ) → int_le y x ≡ not (int_lt x y)
int_le-not (pos a) (pos b) = nat_le-not a b
int_le-not (pos a) (negsuc b) = refl
int_le-not (negsuc a) (pos b) = refl
int_le-not (negsuc a) (negsuc b) = nat_le-not b a

pub result_of-Ne : (w a b : ℕ) → result_of Ne w a b ≡ 1 - result_of Eq w a b
result_of-Ne w a b = truth_of-not (a == b)

pub result_of-Ge : (w a b : ℕ) → result_of Ge w a b ≡ 1 - result_of Lt w a b
result_of-Ge w a b = ap truth_of (int_le-not (signed_of w a) (signed_of w b)) ∙ truth_of-not _

pub result_of-Geu : (w a b : ℕ) → result_of Geu w a b ≡ 1 - result_of Ltu w a b
result_of-Geu w a b = ap truth_of (nat_le-not a b) ∙ truth_of-not _

truth_of-not_back : (test : Bool) → truth_of test ≡ 1 - truth_of (not test)
truth_of-not_back true = refl
truth_of-not_back false = refl

pub result_of-Eq : (w a b : ℕ) → result_of Eq w a b ≡ 1 - result_of Ne w a b
result_of-Eq w a b = truth_of-not_back (a == b)

pub result_of-Lt : (w a b : ℕ) → result_of Lt w a b ≡ 1 - result_of Ge w a b
result_of-Lt w a b =
    truth_of-not_back (int_lt (signed_of w a) (signed_of w b))
    ∙ ap (λ t. 1 - truth_of t) (sym (int_le-not (signed_of w a) (signed_of w b)))

pub result_of-Ltu : (w a b : ℕ) → result_of Ltu w a b ≡ 1 - result_of Geu w a b
result_of-Ltu w a b = truth_of-not_back (nat_lt a b) ∙ ap (λ t. 1 - truth_of t) (sym (nat_le-not a b))
