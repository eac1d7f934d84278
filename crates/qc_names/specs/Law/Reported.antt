-- What is reported of several lists of faults, one after the other.
use Rattle.std.specs.Prelude.{ℕ, ◌+◌, ◌≡◌, ◌<◌, List, [], ◌∷◌, ◌++◌, length, drop, Option, None, Some}
use Rattle.std.proofs.Common.{refl, ap, sym, ◌∙◌, arith, get_or}
use Rattle.std.proofs.lemmas.List.{at_drop_more}
use Rattle.std.proofs.lemmas.Grind.{common_steps}
use Rattle.qc_names.specs.Reported as faults

module _ {F : Type 0} (token_of rank_of : F → ℕ) where
  abbrev both : Option F → Option F → Option F
  both = faults.reported_of_both token_of rank_of

  abbrev reported : List F → Option F
  reported = faults.reported token_of rank_of

  -- which of three is reported does not hang on how they are paired
  pub both_assoc : (a b c : Option F) → both (both a b) c ≡ both a (both b c)
  both_assoc None b c = refl
  both_assoc (Some f) None c = refl
  both_assoc (Some f) (Some g) None = refl
  both_assoc (Some f) (Some g) (Some h) = grind (arith, common_steps)

  -- nothing is reported of an empty list
  pub both-none : (a : Option F) → both a None ≡ a
  both-none None = refl
  both-none (Some f) = refl

  -- what is reported of two lists, by what is reported of each
  pub reported-append : (xs ys : List F) → reported (xs ++ ys) ≡ both (reported xs) (reported ys)
  reported-append [] ys = refl
  reported-append (f ∷ fs) ys =
      ap (both (Some f)) (reported-append fs ys) ∙ sym (both_assoc (Some f) (reported fs) (reported ys))

  -- a loop over a list whose faults are those of its elements one after the other
  pub reported_more : {A : Type 0} (G : List A → List F) (H : A → List F)
      → ((x : A) (xs : List A) → G (x ∷ xs) ≡ H x ++ G xs)
      → (xs : List A) (i : ℕ) (x : A) (found new next whole : Option F) → i < length xs → x ≡ get_or xs i x
      → new ≡ reported (H x) → next ≡ both found new → both found (reported (G (drop i xs))) ≡ whole
      → both next (reported (G (drop (i + 1) xs))) ≡ whole
  reported_more G H step xs i x found new next whole within is by joined before =
      let rest : List F = G (drop (i + 1) xs) in
      let here : G (drop i xs) ≡ H x ++ rest =
      at_drop_more G xs i x within ∙ ap (λ y. G (y ∷ drop (i + 1) xs)) (sym is) ∙ step x (drop (i + 1) xs) in
      ap (λ n. both n (reported rest)) joined ∙ both_assoc found new (reported rest)
      ∙ ap (both found) (ap (λ n. both n (reported rest)) by ∙ sym (reported-append (H x) rest)
      ∙ sym (ap reported here))
      ∙ before

  -- what is reported of two lists
  pub reported_two : (a b : List F) (o p : Option F) → o ≡ reported a → p ≡ reported b
      → both o p ≡ reported (a ++ b)
  reported_two a b o p ao bp =
      ap (λ x. both x p) ao ∙ ap (both (reported a)) bp ∙ sym (reported-append a b)

  -- what is reported of three lists
  pub reported_three : (a b c : List F) (o p q : Option F) → o ≡ reported a → p ≡ reported b → q ≡ reported c
      → both o (both p q) ≡ reported (a ++ (b ++ c))
  reported_three a b c o p q ao bp cq =
      reported_two a (b ++ c) o (both p q) ao (reported_two b c p q bp cq)

  -- what is reported of four lists
  pub reported_four : (a b c d : List F) (o p q r : Option F) → o ≡ reported a → p ≡ reported b → q ≡ reported c
      → r ≡ reported d → both o (both p (both q r)) ≡ reported (a ++ (b ++ (c ++ d)))
  reported_four a b c d o p q r ao bp cq dr =
      reported_two a (b ++ (c ++ d)) o (both p (both q r)) ao (reported_three b c d p q r bp cq dr)

pub ruleset reported_parts = (reported-append, both_assoc, both-none)
