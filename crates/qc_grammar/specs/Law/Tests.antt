-- What the tests of classes tell.
use Rattle.std.specs.Prelude.{ℕ, zero, suc, ◌≡◌, Bool, true, false, not, List, [], ◌∷◌, ◌++◌, Option, Some, None}
use Rattle.std.specs.List.{list_all}
use Rattle.std.proofs.Common.{refl, ap, sym, ◌∙◌, inl, inr}
use Rattle.std.specs.Cmp.Lexicographic.{same_text}
use Rattle.std.proofs.lemmas.Cmp.{nat_list_eq_equiv}
use Rattle.std.proofs.lemmas.Bool.{and_parts, both_ways, cases_Bool, eq-eqb, eqb-true, not-true, or_cases, or_left, or_parts, or_right}
use Rattle.std.proofs.lemmas.List.Folds.{list_any-append}
use Rattle.qc_text.specs.declared.token.Kind.{Kind}
use Rattle.qc_text.specs.declared.token.Kind.TheVariants.{Name, Prim, Number, Str, Punct, End}
use Rattle.qc_grammar.specs.Lexeme.{Class, Word, Value, Any, Lexeme, same_class, kind_number}
use Rattle.qc_grammar.specs.Reading.{next_in}
use Rattle.qc_grammar.specs.Law.LL1.{is_in, are_apart, are_within}

kind_at : ℕ → Kind
kind_at zero = Name
kind_at (suc zero) = Prim
kind_at (suc (suc zero)) = Number
kind_at (suc (suc (suc zero))) = Str
kind_at (suc (suc (suc (suc zero)))) = Punct
kind_at (suc (suc (suc (suc (suc n))))) = End

kind_of_number : (k : Kind) → kind_at (kind_number k) ≡ k
unfolding kind_at
kind_of_number Name = refl
kind_of_number Prim = refl
kind_of_number Number = refl
kind_of_number Str = refl
kind_of_number Punct = refl
kind_of_number End = refl

-- classes that compare alike are one
pub one_class : (a b : Class) → same_class a b ≡ true → a ≡ b
one_class (Word a) (Word b) e = ap Word (same_text a b (sym e))
one_class (Value n) (Value m) e = ap Value (eqb-true n m e)
one_class (Word a) (Value m) e = absurd cc
one_class (Word a) (Any l) e = absurd cc
one_class (Value n) (Word b) e = absurd cc
one_class (Value n) (Any l) e = absurd cc
one_class (Any k) (Value m) e = absurd cc
one_class (Any k) (Word b) e = absurd cc
one_class (Any k) (Any l) e =
    ap Any (sym (kind_of_number k) ∙ ap kind_at (eqb-true (kind_number k) (kind_number l) e) ∙ kind_of_number l)

pub class_alike : (a : Class) → same_class a a ≡ true
class_alike (Word a) = nat_list_eq_equiv.refl a
class_alike (Value n) = eq-eqb n n refl
class_alike (Any k) = eq-eqb (kind_number k) (kind_number k) refl

pub in_first : (xs ys : List Class) (c : Class) → is_in xs c ≡ true → is_in (xs ++ ys) c ≡ true
in_first xs ys c e = list_any-append (same_class c) xs ys ∙ or_left _ (is_in ys c) e

pub in_second : (xs ys : List Class) (c : Class) → is_in ys c ≡ true → is_in (xs ++ ys) c ≡ true
in_second xs ys c e = list_any-append (same_class c) xs ys ∙ or_right (is_in xs c) _ e

-- what is in a list meets a test that each of the list meets
pub each_of : (test : Class → Bool) (xs : List Class) (c : Class) → list_all test xs ≡ true → is_in xs c ≡ true
    → test c ≡ true
each_of test [] c each inside = absurd cc
each_of test (x ∷ xs) c each inside =
    let parts : (test x ≡ true) × (list_all test xs ≡ true) = and_parts _ _ each in
    elim (or_cases (same_class c x) (is_in xs c) inside) [
      | inl e ↦ ap test (one_class c x e) ∙ parts.0
      | inr e ↦ each_of test xs c parts.1 e
    ]

pub apart : (xs ys : List Class) (c : Class) → are_apart xs ys ≡ true → is_in xs c ≡ true → is_in ys c ≡ false
apart xs ys c e inside = not-true _ (each_of (λ d. not (is_in ys d)) xs c e inside)

-- the class of the next token, if a token is left
abbrev pub next_class : List Lexeme → Option Class
next_class [] = None
next_class (token ∷ tokens) = Some token.class

pub next_alike : (classes : List Class) (xs ys : List Lexeme) → next_class xs ≡ next_class ys
    → next_in classes xs ≡ next_in classes ys
next_alike classes [] [] e = refl
next_alike classes [] (y ∷ ys) e = absurd cc
next_alike classes (x ∷ xs) [] e = absurd cc
next_alike classes (x ∷ xs) (y ∷ ys) e = let same : x.class ≡ y.class = cc in ap (λ c. is_in classes c) same

pub next_none : (xs : List Lexeme) → next_class xs ≡ None → xs ≡ []
next_none [] e = refl
next_none (x ∷ xs) e = absurd cc

pub next_behind : (front xs ys : List Lexeme) → next_class xs ≡ next_class ys
    → next_class (front ++ xs) ≡ next_class (front ++ ys)
next_behind [] xs ys e = e
next_behind (t ∷ front) xs ys e = refl

-- what isn't next of two lists isn't next of either
pub next_first : (xs ys : List Class) (tokens : List Lexeme) → next_in (xs ++ ys) tokens ≡ false
    → next_in xs tokens ≡ false
next_first xs ys [] e = refl
next_first xs ys (t ∷ ts) e =
    (or_parts (is_in xs t.class) (is_in ys t.class) (sym (list_any-append (same_class t.class) xs ys) ∙ e)).0

pub next_second : (xs ys : List Class) (tokens : List Lexeme) → next_in (xs ++ ys) tokens ≡ false
    → next_in ys tokens ≡ false
next_second xs ys [] e = refl
next_second xs ys (t ∷ ts) e =
    (or_parts (is_in xs t.class) (is_in ys t.class) (sym (list_any-append (same_class t.class) xs ys) ∙ e)).1

-- what isn't next of a list isn't next of a list within it
pub next_within : (xs ys : List Class) (tokens : List Lexeme) → are_within xs ys ≡ true → next_in ys tokens ≡ false
    → next_in xs tokens ≡ false
next_within xs ys [] e f = refl
next_within xs ys (t ∷ ts) e f = elim (cases_Bool (is_in xs t.class)) [
  | inl g ↦ absurd (both_ways _ f (each_of (is_in ys) xs t.class e g))
  | inr g ↦ g
]
