-- The fields of items, one after the other.
use Rattle.std.specs.Prelude.{ℕ, suc, ◌≡◌, ◌+◌, ◌<◌, List, [], ◌∷◌, ◌++◌, length, take}
use Rattle.std.proofs.Common.{refl, ap, sym, ◌∙◌, arith, subst, append_assoc, get_or}
use Rattle.std.proofs.lemmas.List.{take_more, length-take-le}
use Rattle.qc_names.specs.Tables.{named}
use Rattle.qc_sled.specs.declared.syntax.Field.{Field}
use Rattle.qc_sled.specs.declared.syntax.Item.{Item}
use Rattle.qc_sled.specs.declared.syntax.Item.TheVariants.{Fields, Pattern, Constructor}
use Rattle.qc_join.specs.declared.expanded.FieldPlace.{FieldPlace}
use Rattle.qc_names.specs.ValueTables.{IsTableOf}
use Rattle.qc_join.specs.Expansion.{places_of, fields_from}

-- the fields of two lists of one item
places_of-append : (declaration bits : ℕ) (fs gs : List Field) →
    places_of declaration bits (fs ++ gs) ≡ places_of declaration bits fs ++ places_of declaration bits gs
places_of-append declaration bits [] gs = refl
places_of-append declaration bits (f ∷ fs) gs =
    ap (λ ps. (f.name.text, record { declaration = declaration; bits = bits; high = f.high.value; low = f.low.value })
    ∷ ps) (places_of-append declaration bits fs gs)

-- a table of the fields of an item, with one field more
pub field_more : (declaration bits : ℕ) (fields : List Field) (at : ℕ) (f : Field) (name : List ℕ)
    (pairs : List (List ℕ × FieldPlace)) (values : List FieldPlace) (es : List (List ℕ × ℕ)) →
    at < length fields → f ≡ get_or fields at f → name ≡ f.name.text →
    IsTableOf ((pairs ++ places_of declaration bits (take at fields))
    ++ (name, record { declaration = declaration; bits = bits; high = f.high.value; low = f.low.value }) ∷ [])
    values es →
    IsTableOf (pairs ++ places_of declaration bits (take (at + 1) fields)) values es
field_more declaration bits fields at f name pairs values es within is named table =
    subst (λ ps. IsTableOf ps values es)
    (ap (λ n. (pairs ++ places_of declaration bits (take at fields))
    ++ (n, record { declaration = declaration; bits = bits; high = f.high.value; low = f.low.value }) ∷ []) named
    ∙ append_assoc pairs (places_of declaration bits (take at fields)) (places_of declaration bits (f ∷ []))
    ∙ ap (λ ps. pairs ++ ps)
    (sym (places_of-append declaration bits (take at fields) (f ∷ []))
    ∙ ap (places_of declaration bits)
    (ap (λ x. take at fields ++ x ∷ []) is ∙ sym (take_more fields at f within))))
    table

-- the fields of two lists of items
fields_from-append : (number : ℕ) (xs ys : List Item) →
    fields_from number (xs ++ ys) ≡ fields_from number xs ++ fields_from (number + length xs) ys
fields_from-append number [] ys = ap (λ n. fields_from n ys) (omega arith)
fields_from-append number (Fields token name bits fields ∷ xs) ys =
    ap (λ ps. places_of number bits.value fields ++ ps)
    (fields_from-append (suc number) xs ys
    ∙ ap (λ n. fields_from (suc number) xs ++ fields_from n ys) (omega arith))
    ∙ sym (append_assoc (places_of number bits.value fields) (fields_from (suc number) xs)
    (fields_from (number + length (Fields token name bits fields ∷ xs)) ys))
fields_from-append number (Pattern token name body ∷ xs) ys =
    fields_from-append (suc number) xs ys
    ∙ ap (λ n. fields_from (suc number) xs ++ fields_from n ys) (omega arith)
fields_from-append number (Constructor token name params body ∷ xs) ys =
    fields_from-append (suc number) xs ys
    ∙ ap (λ n. fields_from (suc number) xs ++ fields_from n ys) (omega arith)

-- the fields of one item more
pub items_more : (items : List Item) (at : ℕ) (i : Item) → at < length items → i ≡ get_or items at i →
    fields_from 0 (take at items) ++ fields_from at (i ∷ []) ≡ fields_from 0 (take (at + 1) items)
items_more items at i within is =
    ap (λ n. fields_from 0 (take at items) ++ fields_from n (i ∷ [])) size
    ∙ sym (fields_from-append 0 (take at items) (i ∷ []))
    ∙ ap (fields_from 0) (ap (λ x. take at items ++ x ∷ []) is ∙ sym (take_more items at i within))
  where
    size : at ≡ 0 + length (take at items)
    size = omega (arith, length-take-le at items (omega (arith, within)))
