-- Least numbers of sums and of alternatives.
use Rattle.std.proofs.Common.{arith, ◌≡◌, ◌+◌, min, ℕ, zero, suc, List, [], ◌∷◌, map, slice_get, Option, None, Some, refl, subst, inl, inr, ◌⊎◌}
use Rattle.std.proofs.lemmas.Bool.{cases_lt}
use Rattle.qc_least.specs.Choices.{least_among, lesser, plus}
use Rattle.qc_least.specs.Least.{IsLeast}

pub least_same : (Has Other : ℕ → Type 0) (least : Option ℕ) → ((n : ℕ) → Has n → Other n) → ((n : ℕ) → Other n → Has n) →
    IsLeast Has least → IsLeast Other least
least_same Has Other None to from none = λ n other. none n (from n other)
least_same Has Other (Some least) to from it = (to least it.0, λ n other. it.1 n (from n other))

-- a number of one and a number of the other
abbrev pub HasSum : (ℕ → Type 0) → (ℕ → Type 0) → ℕ → Type 0
HasSum Has Other count = (m : ℕ) × (n : ℕ) × Has m × Other n × (count ≡ m + n)

pub least_plus : (Has Other : ℕ → Type 0) (least other : Option ℕ) → IsLeast Has least → IsLeast Other other →
    IsLeast (HasSum Has Other) (plus least other)
least_plus Has Other None other first second = λ n has. first has.0 has.2
least_plus Has Other (Some m) None first second = λ n has. second has.1 has.3
least_plus Has Other (Some m) (Some k) first second = (
  (m, k, first.0, second.0, refl),
  λ n has. let a = first.1 has.0 has.2 in let b = second.1 has.1 has.3 in let e = has.4 in omega arith,
)

pub least_either : (Has Other : ℕ → Type 0) (least other : Option ℕ) → IsLeast Has least → IsLeast Other other →
    IsLeast (λ n. Has n ⊎ Other n) (lesser least other)
least_either Has Other None None first second = λ n has. elim has [ inl here ↦ first n here | inr there ↦ second n there ]
least_either Has Other None (Some k) first second = (
  inr second.0,
  λ n has. elim has [ inl here ↦ absurd (first n here) | inr there ↦ second.1 n there ],
)
least_either Has Other (Some m) None first second = (
  inl first.0,
  λ n has. elim has [ inl here ↦ first.1 n here | inr there ↦ absurd (second n there) ],
)
least_either Has Other (Some m) (Some k) first second = (
  elim (cases_lt m k) [
    | inl less ↦ let P : ℕ → Type 0 = λ n. Has n ⊎ Other n in let e : m ≡ min m k = omega arith in subst P e (inl first.0)
    | inr more ↦ let P : ℕ → Type 0 = λ n. Has n ⊎ Other n in let e : k ≡ min m k = omega arith in subst P e (inr second.0)
  ],
  λ n has.
      elim has [
        | inl here ↦ let h = first.1 n here in omega arith
        | inr there ↦ let h = second.1 n there in omega arith
      ],
)

-- a number of one of the items
abbrev pub HasAny : {A : Type 0} → (A → ℕ → Type 0) → List A → ℕ → Type 0
HasAny {A} Has items n = (i : ℕ) × (item : A) × (slice_get items i ≡ Some item) × Has item n

first_or_later : {A : Type 0} (Has : A → ℕ → Type 0) (item : A) (items : List A) (n i : ℕ) (found : A) →
    slice_get (item ∷ items) i ≡ Some found → Has found n → Has item n ⊎ HasAny Has items n
first_or_later Has item items n zero found at has = let e : found ≡ item = cc in inl (subst (λ a. Has a n) e has)
first_or_later Has item items n (suc i) found at has = inr (i, found, at, has)

pub least_any : {A : Type 0} (Has : A → ℕ → Type 0) (least : A → Option ℕ) → ((item : A) → IsLeast (Has item) (least item)) →
    (items : List A) → IsLeast (HasAny Has items) (least_among (map least items))
least_any Has least each [] = λ n has. let h = has.2 in cc h
least_any Has least each (item ∷ items) =
    least_same (λ n. Has item n ⊎ HasAny Has items n) (HasAny Has (item ∷ items)) (lesser (least item) (least_among (map least items)))
    (λ n has. elim has [ inl here ↦ (0, item, refl, here) | inr there ↦ (suc there.0, there.1, there.2, there.3) ])
    (λ n has. first_or_later Has item items n has.0 has.1 has.2 has.3)
    (least_either (Has item) (HasAny Has items) (least item) (least_among (map least items)) (each item) (least_any Has least each items))
