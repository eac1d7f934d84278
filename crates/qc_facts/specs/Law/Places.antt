-- Symbol tables: the first place of a name.
use Rattle.std.specs.Prelude.{ℕ, suc, ◌≡◌, ◌+◌, ◌<◌, ◌≤◌, ◌^◌, Bool, true, false, cond, List, [], ◌∷◌, ◌++◌, length, map, slice_get, Option, None, Some}
use Rattle.std.specs.Str.{bytes_eq}
use Rattle.std.proofs.Common.{refl, ap, sym, ◌∙◌, subst, arith, length-append}
use Rattle.std.proofs.lemmas.List.{length-map, map-append}
use Rattle.std.proofs.lemmas.List.Elements.{All-push, All-get_or}
use Rattle.std.proofs.lemmas.Option.{get_or_from_slice_get}
use Rattle.qc_names.specs.Tables.{number_at, entered, first_place_from, IsIndexOf}
use Rattle.qc_names.specs.Law.Tables.{bytes_eq-symm, index-entered}
use Rattle.qc_facts.specs.declared.facts.SpaceFacts.{SpaceFacts}
use Rattle.qc_facts.specs.Facts.{Facts, placed_from, space_named, place_of}
use Rattle.qc_facts.specs.SpaceTables.{HasTable}

-- the place of what has a name is that of the name
pub placed-first : {A : Type 0} (at : ℕ) (f : A → List ℕ) (xs : List A) (name : List ℕ) →
    first_place_from at (map f xs) name ≡ place_of (placed_from at f xs name)
placed-first at f [] name = refl
placed-first at f (x ∷ xs) name =
    ap (λ b. cond b (Some at) (first_place_from (suc at) (map f xs) name)) (bytes_eq-symm name (f x))
    ∙ by (bytes_eq (f x) name) (placed-first (suc at) f xs name)
  where
    by : (b : Bool) → first_place_from (suc at) (map f xs) name ≡ place_of (placed_from (suc at) f xs name) →
        cond b (Some at) (first_place_from (suc at) (map f xs) name)
        ≡ place_of (cond b (Some (at, x)) (placed_from (suc at) f xs name))
    by true rest = refl
    by false rest = rest

-- What is found has its place in the list.
pub record StandsAt {A : Type 0} (xs : List A) (at place : ℕ) (x : A) : Type 0 where
  pub index : ℕ
  pub place_is : place ≡ at + index
  pub within : index < length xs
  pub is : slice_get xs index ≡ Some x

pub placed-stands : {A : Type 0} (at : ℕ) (f : A → List ℕ) (xs : List A) (name : List ℕ) (place : ℕ) →
    place_of (placed_from at f xs name) ≡ Some place →
    (x : A) × (placed_from at f xs name ≡ Some (place, x)) × StandsAt xs at place x
placed-stands at f [] name place found = cc
placed-stands {A = A} at f (x ∷ xs) name place found =
    by (bytes_eq (f x) name) found (placed-stands (suc at) f xs name place)
  where
    by : (b : Bool) → place_of (cond b (Some (at, x)) (placed_from (suc at) f xs name)) ≡ Some place →
        (place_of (placed_from (suc at) f xs name) ≡ Some place →
        (y : A) × (placed_from (suc at) f xs name ≡ Some (place, y)) × StandsAt xs (suc at) place y) →
        (y : A) × (cond b (Some (at, x)) (placed_from (suc at) f xs name)
        ≡ Some (place, y)) × StandsAt (x ∷ xs) at place y
    by true found rest =
        let same : at ≡ place = cc in (
          x,
          ap (λ n. Some (n, x)) same,
          record {
            index = 0;
            place_is = omega (arith, same);
            within = omega arith;
            is = refl;
          },
        )
    by false found rest =
        let r = rest found in (
          r.0,
          r.1,
          record {
            index = suc r.2.index;
            place_is = omega (arith, r.2.place_is);
            within = omega (arith, r.2.within);
            is = r.2.is;
          },
        )

pub table-entered : (spaces : List SpaceFacts) (es : List (List ℕ × ℕ)) (space : SpaceFacts) (place : ℕ) →
    HasTable spaces es → place ≡ length spaces → place + 1 < 2 ^ 32 → space.cells ≤ 2 ^ 64 →
    HasTable (spaces ++ space ∷ []) (entered es space.name place)
table-entered spaces es space place table is few small = record {
  index = subst (λ names. IsIndexOf names (entered es space.name place)) (sym (map-append (λ s. s.name) spaces
      (space ∷ [])))
      (index-entered (map (λ s. s.name) spaces) es space.name place table.index (is
      ∙ sym (length-map spaces (λ s. s.name))));
  few = omega (arith, length-append spaces (space ∷ []), is, few);
  small = All-push (λ s. s.cells ≤ 2 ^ 64) spaces space table.small small;
}

-- what a table's place of a name is
pub record IsSpaceAt (facts : Facts) (name : List ℕ) (place : ℕ) : Type 0 where
  pub fits : place < 2 ^ 32
  pub within : place < length facts.spaces
  pub space : SpaceFacts
  pub is : space_named facts name ≡ Some (place, space)
  pub at : slice_get facts.spaces place ≡ Some space
  pub small : space.cells ≤ 2 ^ 64

table-place : (spaces : List SpaceFacts) (es : List (List ℕ × ℕ)) (name : List ℕ) → HasTable spaces es →
    number_at es name ≡ place_of (placed_from 0 (λ s. s.name) spaces name)
table-place spaces es name table = table.index.places name ∙ placed-first 0 (λ s. s.name) spaces name

pub table-some : (facts : Facts) (es : List (List ℕ × ℕ)) (name : List ℕ) (place : ℕ) → HasTable facts.spaces es →
    Some place ≡ number_at es name → IsSpaceAt facts name place
table-some facts es name place table found =
    let p = placed-stands 0 (λ s. s.name) facts.spaces name place (sym (found
    ∙ table-place facts.spaces es name table)) in
    let same : p.2.index ≡ place = omega (arith, p.2.place_is) in
    let at : slice_get facts.spaces place ≡ Some p.0 = ap (slice_get facts.spaces) (sym same) ∙ p.2.is in
    record {
      fits = omega (arith, p.2.within, table.few, same);
      within = omega (arith, p.2.within, same);
      space = p.0;
      is = p.1;
      at = at;
      small = subst (λ s. s.cells ≤ 2 ^ 64) (get_or_from_slice_get facts.spaces place p.0 p.0 at)
          (All-get_or (λ s. s.cells ≤ 2 ^ 64) facts.spaces place p.0 (omega (arith, p.2.within, same)) table.small);
    }

pub table-none_at : (facts : Facts) (es : List (List ℕ × ℕ)) (name : List ℕ) → HasTable facts.spaces es →
    None ≡ number_at es name → space_named facts name ≡ None
table-none_at facts es name table found =
    none (space_named facts name) (sym (found ∙ table-place facts.spaces es name table))
  where
    none : (o : Option (ℕ × SpaceFacts)) → place_of o ≡ None → o ≡ None
    none None h = refl
    none (Some x) h = cc
