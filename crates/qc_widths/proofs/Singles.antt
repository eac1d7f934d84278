-- Single items, which are seen by the names of their sorts.
use Rattle.std.specs.Prelude.{ℕ, ◌≡◌, Bool, true, false, ◌&&◌, ◌||◌, nat_eq, List, [], ◌∷◌, ◌++◌, map}
use Rattle.std.specs.List.{list_any, flat_map}
use Rattle.std.specs.Str.{bytes_eq}
use Rattle.std.proofs.Common.{refl, ap, sym, ◌∙◌}
use Rattle.std.proofs.lemmas.List.{map-append}
use Rattle.qc_widths.specs.TextFaults.{repeated_after, single_item, number_of_single, second_singles}
use Rattle.qc_names.specs.Reported.{twice_if}
use Rattle.qc_lrtl.specs.declared.syntax.Item.{Item}
use Rattle.qc_facts.specs.declared.faults.WidthFault.TheVariants.{TwiceNamed}
use Rattle.qc_widths.specs.declared.repeated.Single.{Single}
use Rattle.qc_widths.specs.Inner.Repeated.{name_of_single, named_single, single_name}

-- two names of one byte are the same where the bytes are
and-true : (b : Bool) → (b && true) ≡ b
and-true true = refl
and-true false = refl

-- sorts of which some is this one
same_sorts : (s : Single) (sorts : List Single)
    → list_any (bytes_eq (name_of_single s)) (map name_of_single sorts)
    ≡ list_any (λ t. nat_eq (number_of_single s) (number_of_single t)) sorts
same_sorts s [] = refl
same_sorts s (t ∷ sorts) =
    ap (λ b. b || list_any (bytes_eq (name_of_single s)) (map name_of_single sorts))
    (and-true (nat_eq (number_of_single s) (number_of_single t)))
    ∙ ap (λ b. nat_eq (number_of_single s) (number_of_single t) || b) (same_sorts s sorts)

-- the names that repeat one are those of items that repeat a sort
pub repeated_singles : (earlier : List Single) (items : List (ℕ × Single))
    → repeated_after (map name_of_single earlier) (map named_single items) ≡ second_singles earlier items
repeated_singles earlier [] = refl
repeated_singles earlier (item ∷ items) =
    ap (λ b. twice_if TwiceNamed b item.0
    ++ repeated_after (map name_of_single earlier ++ name_of_single item.1 ∷ []) (map named_single items))
    (same_sorts item.1 earlier)
    ∙ ap (λ fs. twice_if TwiceNamed (list_any (λ t. nat_eq (number_of_single item.1) (number_of_single t)) earlier) item.0
    ++ fs)
    (ap (λ names. repeated_after names (map named_single items))
    (sym (map-append name_of_single earlier (item.1 ∷ [])))
    ∙ repeated_singles (earlier ++ item.1 ∷ []) items)

-- the names of all items
pub single_names : (items : List Item) → flat_map single_name items ≡ map named_single (flat_map single_item items)
single_names [] = refl
single_names (item ∷ items) =
    ap (λ names. single_name item ++ names) (single_names items)
    ∙ sym (map-append named_single (single_item item) (flat_map single_item items))
