-- The signatures that names stand for, by the places of the names.
use Rattle.std.proofs.Common.{ℕ, zero, suc, ◌≡◌, ◌++◌, true, false, cond, List, [], ◌∷◌, Option, Some, None, length, map, take, refl, sym, ap, ◌∙◌, append_assoc}
use Rattle.std.specs.List.{flat_map, slice_get}
use Rattle.std.specs.Option.{option_map, option_and_then}
use Rattle.std.specs.Str.{bytes_eq}
use Rattle.std.proofs.lemmas.List.{append-nil, map-append}
use Rattle.std.proofs.lemmas.Option.{slice_get-map}
use Rattle.qc_grammar.specs.declared.cursor.Ident.{Ident}
use Rattle.qc_lrtl.specs.declared.syntax.Item.{Item}
use Rattle.qc_lrtl.specs.declared.syntax.Item.TheVariants as fact
use Rattle.qc_resolve.specs.declared.names.Names as tables
use Rattle.qc_facts.specs.Facts.{Facts, named, placed_from, place_of}
use Rattle.qc_resolve.specs.Scopes.{Signature, signature_in}
use Rattle.qc_resolve.specs.Declarations.{place_of_function, function_name, signature_of_item, signatures_after, signatures_in}
use Rattle.qc_resolve.specs.KeptSignatures.{summary}
use Rattle.qc_resolve.specs.KeptNames.{names_at, first_signatures, IsReady}

-- the place of a name in a list of names that begins at this place
place_from : ℕ → List (List ℕ) → List ℕ → Option ℕ
place_from at [] name = None
place_from at (x ∷ xs) name = cond (bytes_eq x name) (Some at) (place_from (suc at) xs name)

place_is : {A : Type 0} (f : A → List ℕ) (at : ℕ) (xs : List A) (name : List ℕ)
    → place_of (placed_from at f xs name) ≡ place_from at (map f xs) name
unfolding place_from
place_is f at [] name = refl
place_is f at (x ∷ xs) name =
    elim (bytes_eq (f x) name) as (λ b. place_of (cond b (Some (at, x)) (placed_from (suc at) f xs name))
    ≡ cond b (Some at) (place_from (suc at) (map f xs) name)) [
      | true ↦ refl
      | false ↦ place_is f (suc at) xs name
    ]

place-next : (at : ℕ) (xs : List (List ℕ)) (name : List ℕ)
    → place_from (suc at) xs name ≡ option_map suc (place_from at xs name)
unfolding place_from
place-next at [] name = refl
place-next at (x ∷ xs) name =
    elim (bytes_eq x name) as (λ b. cond b (Some (suc at)) (place_from (suc (suc at)) xs name)
    ≡ option_map suc (cond b (Some at) (place_from (suc at) xs name))) [
      | true ↦ refl
      | false ↦ place-next (suc at) xs name
    ]

none-at : {A : Type 0} (p : Option ℕ) → option_and_then (λ n. slice_get {X = A} [] n) p ≡ None
none-at None = refl
none-at (Some n) = refl

get-next : {A : Type 0} (x : A) (xs : List A) (p : Option ℕ)
    → option_and_then (λ n. slice_get (x ∷ xs) n) (option_map suc p) ≡ option_and_then (λ n. slice_get xs n) p
get-next x xs None = refl
get-next x xs (Some n) = refl

-- the first of a name among the first ones is the one at the place of the name, if it is among them
found_at : {A : Type 0} (f : A → List ℕ) (level : ℕ) (xs : List A) (name : List ℕ)
    → named f (take level xs) name ≡ option_and_then (λ n. slice_get (take level xs) n) (place_from 0 (map f xs) name)
unfolding place_from
found_at f zero xs name = sym (none-at (place_from 0 (map f xs) name))
found_at f (suc level) [] name = refl
found_at f (suc level) (x ∷ xs) name =
    elim (bytes_eq (f x) name) as (λ b. cond b (Some x) (named f (take level xs) name)
    ≡ option_and_then (λ n. slice_get (x ∷ take level xs) n) (cond b (Some 0) (place_from 1 (map f xs) name))) [
      | true ↦ refl
      | false ↦ found_at f level xs name
          ∙ sym (get-next x (take level xs) (place_from 0 (map f xs) name))
          ∙ ap (λ p. option_and_then (λ n. slice_get (x ∷ take level xs) n) p) (sym (place-next 0 (map f xs) name))
    ]

-- an item's name is that of its signature
names-item : (facts : Facts) (earlier : List Signature) (item : Item)
    → map (λ s. s.name) (signature_of_item facts earlier item) ≡ map (λ n. n.text) (function_name item)
names-item facts earlier (fact.Function token name params body) = refl
names-item facts earlier _ = refl

names-after : (facts : Facts) (earlier : List Signature) (items : List Item)
    → map (λ s. s.name) (signatures_after facts earlier items)
    ≡ map (λ s. s.name) earlier ++ map (λ n. n.text) (flat_map function_name items)
names-after facts earlier [] = sym (append-nil (map (λ s. s.name) earlier))
names-after facts earlier (item ∷ items) =
    let texts : List Ident → List (List ℕ) = map (λ n. n.text) in
    let rest : List (List ℕ) = texts (flat_map function_name items) in
    names-after facts (earlier ++ signature_of_item facts earlier item) items
    ∙ ap (λ names. names ++ rest) (map-append (λ s. s.name) earlier (signature_of_item facts earlier item)
    ∙ ap (λ names. map (λ s. s.name) earlier ++ names) (names-item facts earlier item))
    ∙ append_assoc (map (λ s. s.name) earlier) (texts (function_name item)) rest
    ∙ ap (λ names. map (λ s. s.name) earlier ++ names)
    (sym (map-append (λ n. n.text) (function_name item) (flat_map function_name items)))

place-names : (facts : Facts) (items : List Item) (name : List ℕ)
    → place_from 0 (map (λ s. s.name) (signatures_in facts items)) name ≡ place_of_function items name
place-names facts items name =
    ap (λ names. place_from 0 names name) (names-after facts [] items)
    ∙ sym (place_is (λ n. n.text) 0 (flat_map function_name items) name)

-- The signature of a name among the first ones is the one at the place of the name, if it is among them.
pub signature-placed : (facts : Facts) (items : List Item) (level : ℕ) (name : List ℕ)
    → named (λ s. s.name) (take level (signatures_in facts items)) name
    ≡ option_and_then (λ place. slice_get (take level (signatures_in facts items)) place) (place_of_function items name)
signature-placed facts items level name =
    found_at (λ s. s.name) level (signatures_in facts items) name
    ∙ ap (λ p. option_and_then (λ n. slice_get (take level (signatures_in facts items)) n) p)
    (place-names facts items name)

summary-get : (xs : List Signature) (p : Option ℕ)
    → option_map summary (option_and_then (λ n. slice_get xs n) p)
    ≡ option_and_then (λ n. slice_get (map summary xs) n) p
summary-get xs None = refl
summary-get xs (Some n) = sym (slice_get-map summary xs n)

-- what is kept of the signature of a name is at its place
pub summary-placed : (t : tables.Names) (name : List ℕ) → IsReady t
    → option_map summary (signature_in (names_at t) name)
    ≡ option_and_then (λ place. slice_get t.signatures.now place) (place_of_function t.items.now name)
unfolding names_at
summary-placed t name ready =
    let place : Option ℕ = place_of_function t.items.now name in
    ap (option_map summary) (signature-placed t.facts.now t.items.now (length t.signatures.now) name)
    ∙ summary-get (first_signatures t) place
    ∙ ap (λ kept. option_and_then (λ n. slice_get kept n) place) (sym ready.summaries)
