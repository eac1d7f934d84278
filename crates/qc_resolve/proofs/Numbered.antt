-- Functions and named effects have their numbers in a table.
use Rattle.std.specs.Prelude.{ℕ, zero, suc, ◌≡◌, ◌<◌, ◌+◌, List, [], ◌∷◌, ◌++◌, length, map, take, slice_get, Option, None, Some}
use Rattle.std.specs.List.{flat_map}
use Rattle.std.proofs.Common.{refl, ap, sym, ◌∙◌, subst, arith, length-append, get_or}
use Rattle.std.proofs.lemmas.List.{length-map, map-append, append-nil, take_more}
use Rattle.std.specs.Option.{option_map}
use Rattle.std.proofs.Math.Seq.{take-length}
use Rattle.std.proofs.lemmas.Option.{slice_get-get_or, slice_get-map}
use Rattle.std.proofs.lemmas.List.Concat.{flat_map-append}
use Rattle.qc_grammar.specs.declared.cursor.Ident.{Ident}
use Rattle.qc_names.specs.Tables.{number_at, entered, IsIndexOf}
use Rattle.qc_names.specs.Law.Tables.{index-none, index-entered}
use Rattle.qc_lrtl.specs.declared.syntax.Item.{Item}
use Rattle.qc_lrtl.specs.declared.syntax.Item.TheVariants as fact
use Rattle.qc_resolve.specs.Declarations.{function_item, function_items, function_name, place_of_function}
use Rattle.qc_facts.specs.Facts.{place_of, placed_from}
use Rattle.qc_resolve.specs.declared.functions.Functions.{Functions}
use Rattle.qc_resolve.specs.FunctionTables.{IsTableOf}
use Rattle.qc_resolve.specs.Inner.Numbering.{AreNumbered, HasFirst}
use Rattle.qc_facts.specs.Law.Places.{placed-first}

name_of_function_item : (item : Item) → flat_map function_name (function_item item) ≡ function_name item
name_of_function_item (fact.Function token name params body) = refl
name_of_function_item _ = refl

-- the names of functions and named effects are those of the items that declare them
pub names_of_function_items : (items : List Item) →
    flat_map function_name (function_items items) ≡ flat_map function_name items
names_of_function_items [] = refl
names_of_function_items (item ∷ items) =
    flat_map-append function_name (function_item item) (function_items items)
    ∙ ap (λ names. names ++ flat_map function_name (function_items items)) (name_of_function_item item)
    ∙ ap (λ names. function_name item ++ names) (names_of_function_items items)

pub numbered-none : AreNumbered [] []
numbered-none = record { index = index-none; count = refl }

pub numbered-next : (items : List Item) (es : List (List ℕ × ℕ)) (item : Item) (name : Ident) (place : ℕ) →
    AreNumbered items es → place ≡ length items → name ∷ [] ≡ function_name item →
    AreNumbered (items ++ item ∷ []) (entered es name.text place)
numbered-next items es item name place numbered is named =
    let names : flat_map function_name (items ++ item ∷ []) ≡ flat_map function_name items ++ name ∷ [] =
    flat_map-append function_name items (item ∷ [])
    ∙ ap (λ ns. flat_map function_name items ++ (ns ++ [])) (sym named) in
    record {
      index = subst (λ texts. IsIndexOf texts (entered es name.text place))
          (sym (ap (map (λ n. n.text)) names ∙ map-append (λ n. n.text) (flat_map function_name items) (name ∷ [])))
          (index-entered (map (λ n. n.text) (flat_map function_name items)) es name.text place numbered.index
          (is ∙ sym numbered.count ∙ sym (length-map (flat_map function_name items) (λ n. n.text))));
      count = ap length names
          ∙ omega (
            arith,
            length-append (flat_map function_name items) (name ∷ []),
            length-append items (item ∷ []),
            numbered.count,
          );
    }

-- a table's number of a name is the place of the function of that name
pub numbered-place : (items : List Item) (es : List (List ℕ × ℕ)) → AreNumbered (function_items items) es →
    (name : List ℕ) → number_at es name ≡ place_of_function items name
numbered-place items es numbered name =
    numbered.index.places name
    ∙ placed-first 0 (λ n. n.text) (flat_map function_name (function_items items)) name
    ∙ ap (λ names. place_of (placed_from 0 (λ n. n.text) names name)) (names_of_function_items items)

-- an item without a name of a function declares none, and one with a name declares itself
item-none : (item : Item) → [] ≡ function_name item → function_item item ≡ []
item-none (fact.Function token name params body) h = cc
item-none (fact.Effects token name params body) h = cc
item-none _ h = refl

item-some : (item : Item) (name : Ident) → name ∷ [] ≡ function_name item → function_item item ≡ item ∷ []
item-some (fact.Function token name params body) n h = refl
item-some (fact.Effects token name params body) n h = refl
item-some _ n h = cc

items-more : (items : List Item) (place : ℕ) (item : Item) → place < length items → item ≡ get_or items place item →
    function_items (take (place + 1) items) ≡ function_items (take place items) ++ function_item item
items-more items place item within is =
    ap function_items (take_more items place item within ∙ ap (λ x. take place items ++ x ∷ []) (sym is))
    ∙ flat_map-append function_item (take place items) (item ∷ [])
    ∙ ap (λ more. function_items (take place items) ++ more) (append-nil (function_item item))

pub first-next : (items : List Item) (place : ℕ) (places : List ℕ) (es : List (List ℕ × ℕ)) (item : Item) (name :
    Ident) (number : ℕ) →
    place < length items → item ≡ get_or items place item → name ∷ [] ≡ function_name item → number ≡ length places →
    HasFirst items place places es → HasFirst items (place + 1) (places ++ place ∷ []) (entered es name.text number)
first-next items place places es item name number within is named count first =
    let firsts : List Item = function_items (take place items) in
    let next : firsts ++ item ∷ [] ≡ function_items (take (place + 1) items) =
    sym (items-more items place item within is ∙ ap (λ more. firsts ++ more) (item-some item name named)) in
    let here : slice_get items place ≡ Some item =
    slice_get-get_or items place item within ∙ ap Some (sym is) in
    let lengths : length places ≡ length firsts =
    sym (length-map places (slice_get items)) ∙ ap length first.at ∙ length-map firsts Some in
    record {
      at = map-append (slice_get items) places (place ∷ [])
          ∙ ap (λ more. map (slice_get items) places ++ more ∷ []) here
          ∙ ap (λ more. more ++ Some item ∷ []) first.at
          ∙ sym (map-append Some firsts (item ∷ []))
          ∙ ap (map Some) next;
      numbered = subst (λ is. AreNumbered is (entered es name.text number)) next
          (numbered-next firsts es item name number first.numbered (count ∙ lengths) named);
    }

-- the item at the place of a number
pub place-of-number : (items : List Item) (places : List ℕ) (firsts : List Item) (number place : ℕ) →
    map (slice_get items) places ≡ map Some firsts → slice_get places number ≡ Some place →
    slice_get firsts number ≡ slice_get items place
place-of-number items places firsts number place are found =
    unwrap (slice_get firsts number) (slice_get items place)
    (sym (slice_get-map Some firsts number) ∙ ap (λ xs. slice_get xs number) (sym are)
    ∙ slice_get-map (slice_get items) places number ∙ ap (option_map (slice_get items)) found)
  where
    unwrap : (a : Option Item) (b : Option Item) → option_map Some a ≡ Some b → a ≡ b
    unwrap None b h = cc
    unwrap (Some x) b h = cc

some-within : {A : Type 0} (xs : List A) (n : ℕ) → n < length xs → (x : A) × (slice_get xs n ≡ Some x)
some-within [] n h = absurd (omega (arith, h))
some-within (x ∷ xs) zero h = (x, refl)
some-within (x ∷ xs) (suc n) h = some-within xs n (omega (arith, h))

-- the item of a number, and its place
pub item-of-number : (items : List Item) (functions : Functions) (number : ℕ) → IsTableOf items functions →
    number < length (function_items items) →
    slice_get (function_items items) number ≡ slice_get items (get_or functions.declared number 0)
item-of-number items functions number table within =
    let lengths : length functions.declared ≡ length (function_items items) =
    sym (length-map functions.declared (slice_get items)) ∙ ap length table.declared
    ∙ length-map (function_items items) Some in
    place-of-number items functions.declared (function_items items) number (get_or functions.declared number 0)
    table.declared
    (slice_get-get_or functions.declared number 0 (omega (arith, lengths, within)))

pub number-there : (items : List Item) (functions : Functions) (number : ℕ) → IsTableOf items functions →
    number < length (function_items items) → None ≡ slice_get items (get_or functions.declared number 0) → ⊥
number-there items functions number table within none =
    let there = some-within (function_items items) number within in
    none_some there.0 (none ∙ sym (item-of-number items functions number table within) ∙ there.1)
  where
    none_some : (x : Item) → None ≡ Some x → ⊥
    none_some x h = cc

pub table-of-first : (items : List Item) (functions : Functions) (count : ℕ) → count ≡ length items →
    HasFirst items count functions.declared functions.numbers → IsTableOf items functions
table-of-first items functions count whole first =
    let all : function_items (take count items) ≡ function_items items =
    ap (λ n. function_items (take n items)) whole ∙ ap function_items (take-length items) in
    record {
      declared = first.at ∙ ap (map Some) all;
      places = numbered-place items functions.numbers
          (subst (λ is. AreNumbered is functions.numbers) all first.numbered);
    }
