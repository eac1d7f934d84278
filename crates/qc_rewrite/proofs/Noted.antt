-- What it says of a list of numbers that one was put into it.
use Rattle.std.proofs.Common.{◌≡◌, ◌∙◌, ℕ, suc, List, [], ◌∷◌, ◌++◌, Bool, true, false, not, ◌||◌, nat_eq, slice_get, Some, refl, ap, sym, cond}
use Rattle.std.proofs.lemmas.Bool.{eq-eqb, eqb-true}
use Rattle.std.proofs.lemmas.Map.Keys.{any_passes_from_place}
use Rattle.std.specs.List.{list_any}
use Rattle.std.proofs.Common.{inl, inr, option_map, Option, None}
use Rattle.std.proofs.lemmas.List.{map-append}
use Rattle.std.proofs.lemmas.Option.{slice_get-map}
use Rattle.qc_laws.specs.declared.step.Step.{Step}
use Rattle.qc_rewrite.specs.Inner.Tables.{AreMatched, IsFound, IsNoted}

itself : (n : ℕ) → nat_eq n n ≡ true
itself n = eq-eqb n n refl

same : (m n : ℕ) → nat_eq m n ≡ true → m ≡ n
same m n h = eqb-true m n h

stands : (number : ℕ) (xs : List ℕ) → list_any (nat_eq number) xs ≡ true → (i : ℕ) × (slice_get xs i ≡ Some number)
stands number [] h = absurd (cc h)
stands number (x ∷ xs) h = go (nat_eq number x) refl h (λ any. stands number xs any)
  where
    go : (b : Bool) → nat_eq number x ≡ b → b || list_any (nat_eq number) xs ≡ true →
        (list_any (nat_eq number) xs ≡ true → (i : ℕ) × (slice_get xs i ≡ Some number)) → (i : ℕ) × (slice_get (x ∷ xs) i ≡ Some number)
    go true is any rest = (0, ap (λ n. Some n) (sym (same number x is)))
    go false is any rest = let there = rest any in (suc there.0, there.1)

pub noted : (old new : List ℕ) (number : ℕ) (found fresh : Bool) → list_any (nat_eq number) old ≡ found → fresh ≡ not found →
    new ≡ cond found old (old ++ number ∷ []) → IsNoted old new number fresh
noted old new number true true any is keys = absurd (cc is)
noted old new number true false any is keys = (stands number old any, keys)
noted old new number false true any is keys =
    (λ i at. let h = sym (any_passes_from_place (nat_eq number) old i number at (itself number)) ∙ any in cc h, keys)
noted old new number false false any is keys = absurd (cc is)

first_of_pair : (found : Option (ℕ × List Step)) (number : ℕ) → option_map (λ f. f.0) found ≡ Some number →
    (f : ℕ × List Step) × (found ≡ Some f) × (f.0 ≡ number)
first_of_pair None number is = absurd (cc is)
first_of_pair (Some f) number is = (f, refl, cc is)

-- a number that isn't new is that of a term
pub found_old : (seen more : List ℕ) (found : List (ℕ × List Step)) (id : ℕ) (path : List Step) → AreMatched seen found →
    IsNoted seen more id false → IsFound found found id path × AreMatched more found
found_old seen more found id path matched noted =
    let at = sym (slice_get-map (λ f. f.0) found noted.0.0) ∙ ap (λ ns. slice_get ns noted.0.0) (sym matched) ∙ noted.0.1 in
    let there = first_of_pair (slice_get found noted.0.0) id at in
    (inl (noted.0.0, there.0, there.1, there.2, refl), noted.1 ∙ matched)

-- a new one is put with its term
pub found_new : (seen more : List ℕ) (found : List (ℕ × List Step)) (id : ℕ) (path : List Step) → AreMatched seen found →
    IsNoted seen more id true → IsFound found (found ++ (id, path) ∷ []) id path × AreMatched more (found ++ (id, path) ∷ [])
found_new seen more found id path matched noted = (
  inr (
    λ i f at same.
        let here = ap (λ ns. slice_get ns i) matched ∙ slice_get-map (λ f. f.0) found i ∙ ap (option_map (λ f. f.0)) at
        ∙ ap (λ n. Some n) same in
        noted.0 i here,
    refl,
  ),
  noted.1 ∙ ap (λ ns. ns ++ id ∷ []) matched ∙ sym (map-append (λ f. f.0) found ((id, path) ∷ [])),
)
