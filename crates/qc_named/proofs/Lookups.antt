-- What names stand for, by the tables in which they are looked up.
use Rattle.std.proofs.Common.{ℕ, zero, suc, ◌≡◌, ◌+◌, ◌++◌, true, false, cond, List, [], ◌∷◌, Option, Some, None, length, map, take, refl, sym, ap, ◌∙◌, append_assoc, arith}
use Rattle.std.specs.List.{flat_map, slice_get}
use Rattle.std.specs.Option.{option_map}
use Rattle.std.specs.Str.{bytes_eq}
use Rattle.std.proofs.lemmas.List.{append-nil, map-append}
use Rattle.std.proofs.lemmas.Option.{slice_get-map}
use Rattle.qc_grammar.specs.declared.cursor.Ident.{Ident}
use Rattle.qc_lrtl.specs.declared.syntax.Item.{Item}
use Rattle.qc_lrtl.specs.declared.syntax.Item.TheVariants as fact
use Rattle.qc_names.specs.Tables as texts
use Rattle.qc_names.specs.Tables.{first_place_from}
use Rattle.qc_names.specs.Law.Tables.{bytes_eq-symm}
use Rattle.qc_facts.specs.Facts.{Facts, named, placed_from}
use Rattle.qc_facts.specs.Law.Places.{placed-first}
use Rattle.qc_resolve.specs.declared.names.Names as tables
use Rattle.qc_resolve.specs.declared.signatures.Signature as kept
use Rattle.qc_resolve.specs.Scopes.{Signature, local_bound}
use Rattle.qc_resolve.specs.Declarations.{place_of_function, function_name, signature_of_item, signatures_after, signatures_in}
use Rattle.qc_resolve.specs.KeptNames.{first_signatures, IsReady}
use Rattle.qc_resolve.specs.KeptSignatures.{summary}
use Rattle.qc_named.specs.Inner.Scopes.{kept_of, standing_at}
use Rattle.qc_named.specs.Standing.{placed_in}

-- two ways to look a name up
pub named_again : {A : Type 0} (pairs : List (List ℕ × A)) (name : List ℕ)
    → texts.named pairs name ≡ local_bound (named (λ p. p.0) pairs name)
named_again [] name = refl
named_again (p ∷ pairs) name =
    ap (λ b. cond b (Some p.1) (texts.named pairs name)) (bytes_eq-symm name p.0)
    ∙ elim (bytes_eq p.0 name) as (λ b. cond b (Some p.1) (texts.named pairs name)
    ≡ local_bound (cond b (Some p) (named (λ q. q.0) pairs name))) [
      | true ↦ refl
      | false ↦ named_again pairs name
    ]

place-next : (at : ℕ) (xs : List (List ℕ)) (name : List ℕ)
    → first_place_from (suc at) xs name ≡ option_map suc (first_place_from at xs name)
place-next at [] name = refl
place-next at (x ∷ xs) name =
    elim (bytes_eq name x) as (λ b. cond b (Some (suc at)) (first_place_from (suc (suc at)) xs name)
    ≡ option_map suc (cond b (Some at) (first_place_from (suc at) xs name))) [
      | true ↦ refl
      | false ↦ place-next (suc at) xs name
    ]

-- what stands at a place of a list, with the place counted from a number
abbrev at_place : {A : Type 0} → ℕ → List A → Option ℕ → Option (ℕ × A)
at_place n xs None = None
at_place n xs (Some k) = option_map (λ x. (n + k, x)) (slice_get xs k)

nothing-at : {A : Type 0} (n : ℕ) (p : Option ℕ) → at_place {A = A} n [] p ≡ None
nothing-at n None = refl
nothing-at n (Some k) = refl

at-next : {A : Type 0} (n : ℕ) (x : A) (xs : List A) (p : Option ℕ) → at_place n (x ∷ xs) (option_map suc p) ≡ at_place (suc n) xs p
at-next n x xs None = refl
at-next n x xs (Some k) =
    let same : n + suc k ≡ suc n + k = omega arith in
    ap (λ m. option_map (λ y. (m, y)) (slice_get xs k)) same

at-first : {A : Type 0} (n : ℕ) (x : A) (xs : List A) → Some (n, x) ≡ at_place n (x ∷ xs) (Some 0)
at-first n x xs = let same : n ≡ n + 0 = omega arith in ap (λ m. Some (m, x)) same

-- the first of a name among the first ones is the one at the place of the name, if it is among them
found_at : {A : Type 0} (n : ℕ) (f : A → List ℕ) (level : ℕ) (xs : List A) (name : List ℕ)
    → placed_from n f (take level xs) name ≡ at_place n (take level xs) (first_place_from 0 (map f xs) name)
found_at n f zero xs name = sym (nothing-at n (first_place_from 0 (map f xs) name))
found_at n f (suc level) [] name = refl
found_at n f (suc level) (x ∷ xs) name =
    ap (λ b. cond b (Some (n, x)) (placed_from (suc n) f (take level xs) name)) (bytes_eq-symm (f x) name)
    ∙ elim (bytes_eq name (f x)) as (λ b. cond b (Some (n, x)) (placed_from (suc n) f (take level xs) name)
    ≡ at_place n (x ∷ take level xs) (cond b (Some 0) (first_place_from 1 (map f xs) name))) [
      | true ↦ at-first n x (take level xs)
      | false ↦ found_at (suc n) f level xs name
          ∙ sym (at-next n x (take level xs) (first_place_from 0 (map f xs) name))
          ∙ ap (at_place n (x ∷ take level xs)) (sym (place-next 0 (map f xs) name))
    ]

-- an item's name is that of its signature
names-item : (facts : Facts) (earlier : List Signature) (item : Item)
    → map (λ s. s.name) (signature_of_item facts earlier item) ≡ map (λ n. n.text) (function_name item)
names-item facts earlier (fact.Function token name params body) = refl
names-item facts earlier _ = refl

names-after : (facts : Facts) (earlier : List Signature) (items : List Item)
    → map (λ s. s.name) (signatures_after facts earlier items)
    ≡ map (λ s. s.name) earlier ++ map (λ n. n.text) (flat_map function_name items)
names-after facts earlier [] = sym (append-nil (map (λ s. s.name) earlier))
names-after facts earlier (item ∷ items) =
    let texts : List Ident → List (List ℕ) = map (λ n. n.text) in
    let rest : List (List ℕ) = texts (flat_map function_name items) in
    names-after facts (earlier ++ signature_of_item facts earlier item) items
    ∙ ap (λ names. names ++ rest) (map-append (λ s. s.name) earlier (signature_of_item facts earlier item)
    ∙ ap (λ names. map (λ s. s.name) earlier ++ names) (names-item facts earlier item))
    ∙ append_assoc (map (λ s. s.name) earlier) (texts (function_name item)) rest
    ∙ ap (λ names. map (λ s. s.name) earlier ++ names)
    (sym (map-append (λ n. n.text) (function_name item) (flat_map function_name items)))

place-names : (facts : Facts) (items : List Item) (name : List ℕ)
    → first_place_from 0 (map (λ s. s.name) (signatures_in facts items)) name ≡ place_of_function items name
place-names facts items name =
    ap (λ names. first_place_from 0 names name) (names-after facts [] items)
    ∙ placed-first 0 (λ n. n.text) (flat_map function_name items) name

abbrev pub kept_at : List kept.Signature → Option ℕ → Option (ℕ × kept.Signature)
kept_at kept None = None
kept_at kept (Some k) = option_map (λ s. (k, s)) (slice_get kept k)

kept-place : (xs : List Signature) (p : Option ℕ) → kept_of (at_place 0 xs p) ≡ kept_at (map summary xs) p
kept-place xs None = refl
kept-place xs (Some k) =
    let same : 0 + k ≡ k = omega arith in
    ap (λ m. kept_of (option_map (λ x. (m, x)) (slice_get xs k))) same
    ∙ by (slice_get xs k)
    ∙ ap (option_map (λ s. (k, s))) (sym (slice_get-map summary xs k))
  where
    by : (o : Option Signature) → kept_of (option_map (λ x. (k, x)) o) ≡ option_map (λ s. (k, s)) (option_map summary o)
    by None = refl
    by (Some s) = refl

-- what is kept of the signature of a name is at its place
pub kept-placed : (t : tables.Names) (name : List ℕ) → IsReady t
    → kept_of (placed_in (standing_at t) name) ≡ kept_at t.signatures.now (place_of_function t.items.now name)
unfolding standing_at
kept-placed t name ready =
    ap kept_of (found_at 0 (λ s. s.name) (length t.signatures.now) (signatures_in t.facts.now t.items.now) name)
    ∙ kept-place (first_signatures t) (first_place_from 0 (map (λ s. s.name) (signatures_in t.facts.now t.items.now)) name)
    ∙ ap (kept_at (map summary (first_signatures t))) (place-names t.facts.now t.items.now name)
    ∙ ap (λ kept. kept_at kept (place_of_function t.items.now name)) (sym ready.summaries)
