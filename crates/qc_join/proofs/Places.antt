-- The places of constructors among items.
use Rattle.std.specs.Prelude.{ℕ, suc, ◌≡◌, ◌+◌, ◌<◌, ◌≤◌, Bool, true, false, cond, List, [], ◌∷◌, ◌++◌, length, take, slice_get, Option, None, Some}
use Rattle.std.specs.List.{HoldsAt, flat_map}
use Rattle.std.specs.Option.{IfSome, MatchOption, option_copied}
use Rattle.std.specs.Str.{bytes_eq}
use Rattle.std.proofs.Common.{refl, ap, sym, ◌∙◌, arith, subst, get_or, Bor}
use Rattle.std.proofs.lemmas.List.{take_more, length-take-le}
use Rattle.std.proofs.lemmas.Option.{slice_get_past, slice_get_read}
use Rattle.qc_names.specs.Tables.{named}
use Rattle.qc_sled.specs.declared.syntax.Item.{Item}
use Rattle.qc_sled.specs.declared.syntax.Item.TheVariants.{Fields, Pattern, Constructor}
use Rattle.qc_join.specs.Inner.Constructors.{constructor_of, constructor_places}
use Rattle.qc_join.specs.Joining.{ConstructorOf, constructors_in}

constructor_places-append : (number : ℕ) (xs ys : List Item) →
    constructor_places number (xs ++ ys) ≡ constructor_places number xs ++ constructor_places (number + length xs) ys
constructor_places-append number [] ys = ap (λ n. constructor_places n ys) (omega arith)
constructor_places-append number (Fields token name bits fields ∷ xs) ys =
    constructor_places-append (suc number) xs ys
    ∙ ap (λ n. constructor_places (suc number) xs ++ constructor_places n ys) (omega arith)
constructor_places-append number (Pattern token name body ∷ xs) ys =
    constructor_places-append (suc number) xs ys
    ∙ ap (λ n. constructor_places (suc number) xs ++ constructor_places n ys) (omega arith)
constructor_places-append number (Constructor token name params body ∷ xs) ys =
    ap (λ ps. (name.text, number) ∷ ps)
    (constructor_places-append (suc number) xs ys
    ∙ ap (λ n. constructor_places (suc number) xs ++ constructor_places n ys) (omega arith))

-- the constructors of one item more
pub places_more : (items : List Item) (at : ℕ) (i : Item) → at < length items → i ≡ get_or items at i →
    constructor_places 0 (take at items) ++ constructor_places at (i ∷ []) ≡ constructor_places 0 (take (at + 1) items)
places_more items at i within is =
    ap (λ n. constructor_places 0 (take at items) ++ constructor_places n (i ∷ [])) size
    ∙ sym (constructor_places-append 0 (take at items) (i ∷ []))
    ∙ ap (constructor_places 0) (ap (λ x. take at items ++ x ∷ []) is ∙ sym (take_more items at i within))
  where
    size : at ≡ 0 + length (take at items)
    size = omega (arith, length-take-le at items (omega (arith, within)))

-- the constructor at a place that is counted from a number, or none
abbrev IsPlacedAt : ℕ → List Item → Option ConstructorOf → Option ℕ → Type 0
IsPlacedAt at items found None = found ≡ None
IsPlacedAt at items found (Some n) = (k : ℕ) × (n ≡ at + k) × (constructor_of (slice_get items k) ≡ found)

-- one item more before the others
one_before : (at : ℕ) (i : Item) (items : List Item) (found : Option ConstructorOf) (o : Option ℕ) →
    IsPlacedAt (suc at) items found o → IsPlacedAt at (i ∷ items) found o
one_before at i items found None is = is
one_before at i items found (Some n) is = (suc is.0, omega (arith, is.1), is.2)

-- the first place of a name is that of its constructor
placed : (at : ℕ) (items : List Item) (name : List ℕ) →
    IsPlacedAt at items (named (flat_map constructors_in items) name) (named (constructor_places at items) name)
placed at [] name = refl
placed at (Fields token own bits fields ∷ items) name =
    one_before at (Fields token own bits fields) items (named (flat_map constructors_in items) name)
    (named (constructor_places (suc at) items) name) (placed (suc at) items name)
placed at (Pattern token own body ∷ items) name =
    one_before at (Pattern token own body) items (named (flat_map constructors_in items) name)
    (named (constructor_places (suc at) items) name) (placed (suc at) items name)
placed at (Constructor token own params body ∷ items) name = by (bytes_eq name own.text) (placed (suc at) items name)
  where
    by : (b : Bool) →
        IsPlacedAt (suc at) items (named (flat_map constructors_in items) name)
        (named (constructor_places (suc at) items) name) →
        IsPlacedAt at (Constructor token own params body ∷ items)
        (cond b (Some (record { params = params; body = body })) (named (flat_map constructors_in items) name))
        (cond b (Some at) (named (constructor_places (suc at) items) name))
    by true rest = (0, omega arith, refl)
    by false rest =
        one_before at (Constructor token own params body) items (named (flat_map constructors_in items) name)
        (named (constructor_places (suc at) items) name) rest

-- a name with a place is that of the constructor there
pub placed_some : (items : List Item) (name : List ℕ) (n : ℕ) → named (constructor_places 0 items) name ≡ Some n →
    constructor_of (slice_get items n) ≡ named (flat_map constructors_in items) name
placed_some items name n found =
    let h = subst (IsPlacedAt 0 items (named (flat_map constructors_in items) name)) found (placed 0 items name) in
    let same : n ≡ h.0 = omega (arith, h.1) in
    ap (λ k. constructor_of (slice_get items k)) same ∙ h.2

-- a name without a place is that of no constructor
pub placed_none : (items : List Item) (name : List ℕ) → named (constructor_places 0 items) name ≡ None →
    None ≡ named (flat_map constructors_in items) name
placed_none items name none =
    sym (subst (IsPlacedAt 0 items (named (flat_map constructors_in items) name)) none (placed 0 items name))

-- what is read of a slice is what the list has there, if it has so many
pub copied_get : (items : List Item) (n : ℕ) (o : Option (Bor Item)) → IfSome o (λ x. x.now ≡ get_or items n x.now) →
    MatchOption o (length items ≤ n) (λ x. (n < length items) × HoldsAt (λ y. x.now ≡ y) items n) →
    option_copied o ≡ slice_get items n
copied_get items n None h m = sym (slice_get_past items n m)
copied_get items n (Some x) h m = sym (slice_get_read items (length items) n x.now refl m.0 h)
