-- The limits, the distinct names and the given cells of a text without faults.
use Rattle.std.specs.Prelude.{ℕ, ◌≡◌, ◌≤◌, Bool, true, false, ◌||◌, if◌then◌else◌, List, [], ◌∷◌, ◌++◌, map}
use Rattle.std.specs.List.{AllByRecursion, flat_map, list_any}
use Rattle.std.specs.Str.{bytes_eq}
use Rattle.std.proofs.Common.{refl, ap, sym, ◌∙◌, arith}
use Rattle.std.proofs.lemmas.Bool.{or_parts}
use Rattle.std.proofs.lemmas.Grind.{common_steps}
use Rattle.std.proofs.lemmas.List.{map-append}
use Rattle.std.proofs.lemmas.Slice.Eq.{bytes_eq-Decides}
use Rattle.qc_widths.specs.TextFaults.{more_than, repeated_after}
use Rattle.qc_lists.specs.Law.Lists.{each_of_append}
use Rattle.qc_descr.specs.Names.{AreDistinct}
use Rattle.qc_grammar.specs.declared.cursor.Ident.{Ident}
use Rattle.qc_lrtl.specs.declared.syntax.Item.{Item}
use Rattle.qc_lrtl.specs.declared.syntax.Item.TheVariants as fact
use Rattle.qc_facts.specs.declared.faults.WidthFault.{WidthFault}
use Rattle.qc_facts.specs.declared.faults.WidthFault.TheVariants.{TwiceNamed}
use Rattle.qc_facts.specs.Facts.{space_of_item, spaces_in}
use Rattle.qc_resolve.specs.Declarations.{space_name}
use Rattle.qc_widths.proofs.TypedNodes.{none_of}

pub within_limit : (limit token count : ℕ) → more_than limit token count ≡ [] → count ≤ limit
within_limit limit token count e = grind (arith, common_steps)

not_repeated : (b : Bool) (f : WidthFault) → (if b then f ∷ [] else []) ≡ [] → b ≡ false
not_repeated true f e = cc e
not_repeated false f e = refl

abbrev pub texts : List Ident → List (List ℕ)
texts names = map (λ n. n.text) names

other_bytes : (xs ys : List ℕ) → bytes_eq xs ys ≡ false → bytes_eq ys xs ≡ false
other_bytes xs ys e = by_bool (bytes_eq ys xs) refl
  where
    by_bool : (b : Bool) → bytes_eq ys xs ≡ b → b ≡ false
    by_bool false is = refl
    by_bool true is = cc (e, (bytes_eq-Decides xs ys).1 (sym ((bytes_eq-Decides ys xs).0 is)))

none_yet : (earlier : List (List ℕ)) → AllByRecursion (λ a. list_any (bytes_eq a) [] ≡ false) earlier
none_yet [] = tt
none_yet (a ∷ earlier) = (refl, none_yet earlier)

one_more : (name : List ℕ) (names : List (List ℕ)) (earlier : List (List ℕ)) → list_any (bytes_eq name) earlier ≡ false
    → AllByRecursion (λ a. list_any (bytes_eq a) names ≡ false) earlier
    → AllByRecursion (λ a. list_any (bytes_eq a) (name ∷ names) ≡ false) earlier
one_more name names [] e all = tt
one_more name names (a ∷ earlier) e all =
    let parts : (bytes_eq name a ≡ false) × (list_any (bytes_eq name) earlier ≡ false) =
    or_parts (bytes_eq name a) (list_any (bytes_eq name) earlier) e in (
      ap (λ b. b || list_any (bytes_eq a) names) (other_bytes name a parts.0) ∙ all.0,
      one_more name names earlier parts.1 all.1,
    )

-- where no name is repeated none of those before is among those after
later : (names : List Ident) (earlier : List (List ℕ)) → repeated_after earlier names ≡ []
    → AllByRecursion (λ a. list_any (bytes_eq a) (texts names) ≡ false) earlier
later [] earlier e = none_yet earlier
later (n ∷ names) earlier e =
    let parts : ((if list_any (bytes_eq n.text) earlier then TwiceNamed n.token ∷ [] else []) ≡ [])
    × (repeated_after (earlier ++ n.text ∷ []) names ≡ []) =
    none_of (if list_any (bytes_eq n.text) earlier then TwiceNamed n.token ∷ [] else [])
    (repeated_after (earlier ++ n.text ∷ []) names) e in
    one_more n.text (texts names) earlier
    (not_repeated (list_any (bytes_eq n.text) earlier) (TwiceNamed n.token) parts.0)
    (each_of_append (λ a. list_any (bytes_eq a) (texts names) ≡ false) earlier (n.text ∷ [])
    (later names (earlier ++ n.text ∷ []) parts.1)).0

pub distinct : (names : List Ident) (earlier : List (List ℕ)) → repeated_after earlier names ≡ [] → AreDistinct (texts names)
distinct [] earlier e = tt
distinct (n ∷ names) earlier e =
    let parts : ((if list_any (bytes_eq n.text) earlier then TwiceNamed n.token ∷ [] else []) ≡ [])
    × (repeated_after (earlier ++ n.text ∷ []) names ≡ []) =
    none_of (if list_any (bytes_eq n.text) earlier then TwiceNamed n.token ∷ [] else [])
    (repeated_after (earlier ++ n.text ∷ []) names) e in (
      (each_of_append (λ a. list_any (bytes_eq a) (texts names) ≡ false) earlier (n.text ∷ [])
          (later names (earlier ++ n.text ∷ []) parts.1)).1.0,
      distinct names (earlier ++ n.text ∷ []) parts.1,
    )

-- the names of spaces and of operations are those of the items
pub names_of_spaces : (items : List Item) → map (λ s. s.name) (spaces_in items) ≡ texts (flat_map space_name items)
names_of_spaces [] = refl
names_of_spaces (item ∷ items) =
    map-append (λ s. s.name) (space_of_item item) (spaces_in items)
    ∙ ap (λ xs. xs ++ map (λ s. s.name) (spaces_in items)) (of_item item)
    ∙ ap (λ xs. texts (space_name item) ++ xs) (names_of_spaces items)
    ∙ sym (map-append (λ n. n.text) (space_name item) (flat_map space_name items))
  where
    of_item : (i : Item) → map (λ s. s.name) (space_of_item i) ≡ texts (space_name i)
    of_item (fact.Function token name params body) = refl
    of_item _ = refl
