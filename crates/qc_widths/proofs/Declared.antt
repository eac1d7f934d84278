-- The meanings of functions, by their numbers.
use Rattle.std.specs.Prelude.{ℕ, zero, suc, ◌≡◌, ◌+◌, ◌<◌, ◌≤◌, true, false, List, [], ◌∷◌, ◌++◌, length, map, take, slice_get, None, Some}
use Rattle.std.specs.List.{flat_map}
use Rattle.std.proofs.Common.{refl, ap, sym, subst, ◌∙◌, arith, add-zero, append_assoc, length-append, ◌⊎◌, inl, inr}
use Rattle.std.proofs.lemmas.List.{append-nil, length-map, map-append}
use Rattle.std.proofs.Math.Seq.{take-append_seam}
use Rattle.qc_lists.specs.Law.Lists.{slice_get-append_right}
use Rattle.qc_grammar.specs.declared.cursor.Ident.{Ident}
use Rattle.qc_lrtl.specs.declared.syntax.Effect.{Effect}
use Rattle.qc_lrtl.specs.declared.syntax.Expr.{Expr}
use Rattle.qc_lrtl.specs.declared.syntax.Param.{Param}
use Rattle.qc_lrtl.specs.declared.syntax.Item.{Item}
use Rattle.qc_lrtl.specs.declared.syntax.Item.TheVariants as fact
use Rattle.qc_facts.specs.Facts.{Facts, named, placed_from, place_of}
use Rattle.qc_resolve.specs.Scopes.{Meaning}
use Rattle.qc_widths.proofs.Places.{placed_map, placed_named, placed_taken, placed_late, unplaced_named}
use Rattle.qc_resolve.specs.Declarations.{function_item, function_items, function_name, meaning_of_function, meaning_of_effects, meaning_of_item, meanings_after, meanings_in, place_of_function}

-- an item declares one function and means it, or none
pub record One (facts : Facts) (earlier : List Meaning) (item : Item) : Type 0 where
  pub name : Ident
  pub meaning : Meaning
  pub items : function_item item ≡ item ∷ []
  pub names : function_name item ≡ name ∷ []
  pub means : meaning_of_item facts earlier item ≡ meaning ∷ []
  pub spelled : meaning.signature.name ≡ name.text

pub record NoOne (facts : Facts) (earlier : List Meaning) (item : Item) : Type 0 where
  pub items : function_item item ≡ []
  pub names : function_name item ≡ []
  pub means : meaning_of_item facts earlier item ≡ []

pub one_or_none : (facts : Facts) (earlier : List Meaning) (item : Item) → One facts earlier item ⊎ NoOne facts earlier item
one_or_none facts earlier (fact.Function token name params body) = inl (record { name = name; meaning = _; items = refl; names = refl; means = refl; spelled = refl })
one_or_none facts earlier (fact.Effects token name params body) = inl (record { name = name; meaning = _; items = refl; names = refl; means = refl; spelled = refl })
one_or_none facts earlier _ = inr (record { items = refl; names = refl; means = refl })

abbrev pub meaning_name : Meaning → List ℕ
meaning_name m = m.signature.name

abbrev pub ident_text : Ident → List ℕ
ident_text n = n.text

-- later meanings stand behind earlier ones
pub record Extends (earlier all : List Meaning) : Type 0 where
  pub rest : List Meaning
  pub is : all ≡ earlier ++ rest

pub extends : (facts : Facts) (earlier : List Meaning) (items : List Item) → Extends earlier (meanings_after facts earlier items)
extends facts earlier [] = record { rest = []; is = sym (append-nil earlier) }
extends facts earlier (item ∷ items) =
    let r = extends facts (earlier ++ meaning_of_item facts earlier item) items in
    record {
      rest = meaning_of_item facts earlier item ++ r.rest;
      is = r.is ∙ append_assoc earlier (meaning_of_item facts earlier item) r.rest;
    }

-- what the function of a number means: its item, after the functions before it
pub record MeansAt (facts : Facts) (all : List Meaning) (at : ℕ) (item : Item) : Type 0 where
  pub meaning : Meaning
  pub means : meaning_of_item facts (take at all) item ≡ meaning ∷ []
  pub gets : slice_get all at ≡ Some meaning

means_first : (facts : Facts) (earlier all : List Meaning) (item : Item) (m : Meaning) → meaning_of_item facts earlier item ≡ m ∷ []
    → Extends (earlier ++ m ∷ []) all → (at : ℕ) → at ≡ length earlier → MeansAt facts all at item
means_first facts earlier all item m e x at n =
    let seam : all ≡ earlier ++ (m ∷ x.rest) = x.is ∙ append_assoc earlier (m ∷ []) x.rest in
    record {
      meaning = m;
      means = ap (λ k. meaning_of_item facts (take k all) item) n
          ∙ ap (λ l. meaning_of_item facts (take (length earlier) l) item) seam
          ∙ ap (λ l. meaning_of_item facts l item) (take-append_seam earlier (m ∷ x.rest)) ∙ e;
      gets = ap (λ k. slice_get all k) (n ∙ sym (add-zero (length earlier))) ∙ ap (λ l. slice_get l (length earlier + 0)) seam
          ∙ slice_get-append_right earlier (m ∷ x.rest) 0;
    }

some_item : (a b : Item) → Some a ≡ Some b → a ≡ b
some_item a b e = cc

means_here : (facts : Facts) (earlier : List Meaning) (i : Item) (items : List Item) (item : Item)
    → One facts earlier i → slice_get (function_items (i ∷ items)) 0 ≡ Some item
    → MeansAt facts (meanings_after facts earlier (i ∷ items)) (length earlier + 0) item
means_here facts earlier i items item o e =
    let all : List Meaning = meanings_after facts earlier (i ∷ items) in
    let same : i ≡ item = some_item i item (ap (λ l. slice_get (l ++ function_items items) 0) (sym o.items) ∙ e) in
    let P : List Meaning → Type 0 = λ l. Extends (earlier ++ l) all in
    let x : Extends (earlier ++ o.meaning ∷ []) all =
    subst P o.means (extends facts (earlier ++ meaning_of_item facts earlier i) items) in
    let Q : Item → Type 0 = λ t. MeansAt facts all (length earlier + 0) t in
    subst Q same (means_first facts earlier all i o.meaning o.means x (length earlier + 0) (add-zero (length earlier)))

means_later : (facts : Facts) (earlier : List Meaning) (i : Item) (items : List Item) (n m : ℕ) (item : Item)
    → length earlier + n ≡ length (earlier ++ meaning_of_item facts earlier i) + m
    → MeansAt facts (meanings_after facts earlier (i ∷ items)) (length (earlier ++ meaning_of_item facts earlier i) + m) item
    → MeansAt facts (meanings_after facts earlier (i ∷ items)) (length earlier + n) item
means_later facts earlier i items n m item e r =
    let Q : ℕ → Type 0 = λ t. MeansAt facts (meanings_after facts earlier (i ∷ items)) t item in subst Q (sym e) r

means_case : (facts : Facts) (earlier : List Meaning) (i : Item) (items : List Item) (n : ℕ) (item : Item)
    → One facts earlier i ⊎ NoOne facts earlier i → slice_get (function_items (i ∷ items)) n ≡ Some item
    → ((more : List Meaning) (k : ℕ) → slice_get (function_items items) k ≡ Some item
    → MeansAt facts (meanings_after facts more items) (length more + k) item)
    → MeansAt facts (meanings_after facts earlier (i ∷ items)) (length earlier + n) item
means_case facts earlier i items zero item (inl o) e later = means_here facts earlier i items item o e
means_case facts earlier i items (suc n) item (inl o) e later =
    let long : length (earlier ++ meaning_of_item facts earlier i) ≡ length earlier + 1 =
    ap (λ l. length (earlier ++ l)) o.means ∙ length-append earlier (o.meaning ∷ []) in
    means_later facts earlier i items (suc n) n item (omega arith)
    (later (earlier ++ meaning_of_item facts earlier i) n (ap (λ l. slice_get (l ++ function_items items) (suc n)) (sym o.items) ∙ e))
means_case facts earlier i items n item (inr o) e later =
    let long : length (earlier ++ meaning_of_item facts earlier i) ≡ length earlier =
    ap (λ l. length (earlier ++ l)) o.means ∙ ap length (append-nil earlier) in
    means_later facts earlier i items n n item (omega arith)
    (later (earlier ++ meaning_of_item facts earlier i) n (ap (λ l. slice_get (l ++ function_items items) n) (sym o.items) ∙ e))

pub means_at : (facts : Facts) (earlier : List Meaning) (items : List Item) (n : ℕ) (item : Item)
    → slice_get (function_items items) n ≡ Some item
    → MeansAt facts (meanings_after facts earlier items) (length earlier + n) item
means_at facts earlier [] n item e = absurd (cc)
means_at facts earlier (i ∷ items) n item e =
    means_case facts earlier i items n item (one_or_none facts earlier i) e (λ more k h. means_at facts more items k item h)

-- their names in order
names_case : (facts : Facts) (earlier : List Meaning) (i : Item) (items : List Item) → One facts earlier i ⊎ NoOne facts earlier i
    → map meaning_name (earlier ++ meaning_of_item facts earlier i) ++ map ident_text (flat_map function_name items)
    ≡ map meaning_name earlier ++ map ident_text (flat_map function_name (i ∷ items))
names_case facts earlier i items (inl o) =
    ap (λ l. map meaning_name (earlier ++ l) ++ map ident_text (flat_map function_name items)) o.means
    ∙ ap (λ l. l ++ map ident_text (flat_map function_name items)) (map-append meaning_name earlier (o.meaning ∷ []))
    ∙ append_assoc (map meaning_name earlier) (meaning_name o.meaning ∷ []) (map ident_text (flat_map function_name items))
    ∙ ap (λ n. map meaning_name earlier ++ (n ∷ map ident_text (flat_map function_name items))) o.spelled
    ∙ ap (λ l. map meaning_name earlier ++ map ident_text (l ++ flat_map function_name items)) (sym o.names)
names_case facts earlier i items (inr o) =
    ap (λ l. map meaning_name (earlier ++ l) ++ map ident_text (flat_map function_name items)) o.means
    ∙ ap (λ l. map meaning_name l ++ map ident_text (flat_map function_name items)) (append-nil earlier)
    ∙ ap (λ l. map meaning_name earlier ++ map ident_text (l ++ flat_map function_name items)) (sym o.names)

pub names_after : (facts : Facts) (earlier : List Meaning) (items : List Item)
    → map meaning_name (meanings_after facts earlier items) ≡ map meaning_name earlier ++ map ident_text (flat_map function_name items)
names_after facts earlier [] = sym (append-nil (map meaning_name earlier))
names_after facts earlier (i ∷ items) = names_after facts (earlier ++ meaning_of_item facts earlier i) items
    ∙ names_case facts earlier i items (one_or_none facts earlier i)

-- as many functions as items that declare them
counts_case : (facts : Facts) (i : Item) (items : List Item) → One facts [] i ⊎ NoOne facts [] i
    → length (flat_map function_name items) ≡ length (function_items items)
    → length (flat_map function_name (i ∷ items)) ≡ length (function_items (i ∷ items))
counts_case facts i items (inl o) e =
    ap (λ l. length (l ++ flat_map function_name items)) o.names ∙ ap suc e ∙ ap (λ l. length (l ++ function_items items)) (sym o.items)
counts_case facts i items (inr o) e =
    ap (λ l. length (l ++ flat_map function_name items)) o.names ∙ e ∙ ap (λ l. length (l ++ function_items items)) (sym o.items)

pub counts : (facts : Facts) (items : List Item) → length (flat_map function_name items) ≡ length (function_items items)
counts facts [] = refl
counts facts (i ∷ items) = counts_case facts i items (one_or_none facts [] i) (counts facts items)

-- lookups among meanings go by the places of the functions
pub places : (facts : Facts) (items : List Item) (name : List ℕ)
    → place_of (placed_from 0 meaning_name (meanings_in facts items) name) ≡ place_of_function items name
places facts items name =
    placed_map meaning_name 0 (meanings_in facts items) name
    ∙ ap (λ l. place_of (placed_from 0 (λ n. n) l name)) (names_after facts [] items)
    ∙ sym (placed_map ident_text 0 (flat_map function_name items) name)

-- the meaning that a name has among the functions before a level
pub record MeaningAt (facts : Facts) (items : List Item) (level number : ℕ) (name : List ℕ) : Type 0 where
  pub meaning : Meaning
  pub gets : slice_get (meanings_in facts items) number ≡ Some meaning
  pub named : named meaning_name (take level (meanings_in facts items)) name ≡ Some meaning

taken_gets : {A : Type 0} (level index : ℕ) (xs : List A) (x : A) → slice_get (take level xs) index ≡ Some x → slice_get xs index ≡ Some x
taken_gets zero index xs x e = absurd (cc)
taken_gets (suc level) index [] x e = e
taken_gets (suc level) zero (y ∷ xs) x e = e
taken_gets (suc level) (suc index) (y ∷ xs) x e = taken_gets level index xs x e

pub meaning_at : (facts : Facts) (items : List Item) (level number : ℕ) (name : List ℕ)
    → place_of_function items name ≡ Some number → number < level → MeaningAt facts items level number name
meaning_at facts items level number name e h =
    let ms : List Meaning = meanings_in facts items in
    let p : place_of (placed_from 0 meaning_name (take level ms) name) ≡ Some number =
    placed_taken meaning_name 0 level number ms name (places facts items name ∙ e) (omega arith) in
    let r = placed_named meaning_name 0 number (take level ms) name p in
    let n : number ≡ r.index = omega (arith, r.at) in
    record {
      meaning = r.item;
      gets = ap (λ k. slice_get ms k) n ∙ taken_gets level r.index ms r.item r.gets;
      named = r.is;
    }

some_nat : (a b : ℕ) → Some a ≡ Some b → a ≡ b
some_nat a b e = cc

none_nat : (a : ℕ) → None ≡ Some a → ⊥
none_nat a e = cc

pub no_meaning : (facts : Facts) (items : List Item) (level : ℕ) (name : List ℕ)
    → place_of_function items name ≡ None → named meaning_name (take level (meanings_in facts items)) name ≡ None
no_meaning facts items level name e =
    unplaced_named meaning_name 0 (take level (meanings_in facts items)) name
    (placed_late meaning_name 0 level (meanings_in facts items) name
    (λ place p. absurd (none_nat place (sym (places facts items name ∙ e) ∙ p))))

pub late_meaning : (facts : Facts) (items : List Item) (level number : ℕ) (name : List ℕ)
    → place_of_function items name ≡ Some number → level ≤ number
    → named meaning_name (take level (meanings_in facts items)) name ≡ None
late_meaning facts items level number name e h =
    unplaced_named meaning_name 0 (take level (meanings_in facts items)) name
    (placed_late meaning_name 0 level (meanings_in facts items) name
    (λ place p. let s : number ≡ place = some_nat number place (sym (places facts items name ∙ e) ∙ p) in omega arith))

some_meaning : (a b : Meaning) → Some a ≡ Some b → a ≡ b
some_meaning a b e = cc

one_meaning : (a b : Meaning) → a ∷ [] ≡ b ∷ [] → a ≡ b
one_meaning a b e = cc

-- the meaning of a function's number
pub function_means : (facts : Facts) (items : List Item) (number : ℕ) (item : Item) (token : ℕ) (name : Ident)
    (params : List Param) (body : Expr)
    → slice_get (function_items items) number ≡ Some item → item ≡ fact.Function token name params body
    → slice_get (meanings_in facts items) number
    ≡ Some (meaning_of_function facts (take number (meanings_in facts items)) name params body)
function_means facts items number item token name params body e h =
    let ms : List Meaning = meanings_in facts items in
    let r = means_at facts [] items number item e in
    let z : 0 + number ≡ number = omega arith in
    let k : meaning_of_function facts (take number ms) name params body ∷ [] ≡ r.meaning ∷ [] =
    ap (λ i. meaning_of_item facts (take number ms) i) (sym h) ∙ ap (λ n. meaning_of_item facts (take n ms) item) (sym z) ∙ r.means in
    ap (λ n. slice_get ms n) (sym z) ∙ r.gets ∙ ap Some (sym (one_meaning _ _ k))

pub effects_means : (facts : Facts) (items : List Item) (number : ℕ) (item : Item) (token : ℕ) (name : Ident)
    (params : List Param) (body : List Effect)
    → slice_get (function_items items) number ≡ Some item → item ≡ fact.Effects token name params body
    → slice_get (meanings_in facts items) number
    ≡ Some (meaning_of_effects facts (take number (meanings_in facts items)) name params body)
effects_means facts items number item token name params body e h =
    let ms : List Meaning = meanings_in facts items in
    let r = means_at facts [] items number item e in
    let z : 0 + number ≡ number = omega arith in
    let k : meaning_of_effects facts (take number ms) name params body ∷ [] ≡ r.meaning ∷ [] =
    ap (λ i. meaning_of_item facts (take number ms) i) (sym h) ∙ ap (λ n. meaning_of_item facts (take n ms) item) (sym z) ∙ r.means in
    ap (λ n. slice_get ms n) (sym z) ∙ r.gets ∙ ap Some (sym (one_meaning _ _ k))

no_one : (m : Meaning) → [] ≡ m ∷ [] → ⊥
no_one m e = cc

-- what is no function is named effects
no_function : (facts : Facts) (earlier : List Meaning) (item : Item) (m : Meaning) → meaning_of_item facts earlier item ≡ m ∷ []
    → ((token : ℕ) (name : Ident) (params : List Param) (body : Expr) → item ≡ fact.Function token name params body → ⊥)
    → m.signature.effects ≡ true
no_function facts earlier (fact.Function token name params body) m e not = absurd (not token name params body refl)
no_function facts earlier (fact.Effects token name params body) m e not = ap (λ x. x.signature.effects) (sym (one_meaning _ m e))
no_function facts earlier _ m e not = absurd (no_one m e)

pub no_function_means : (facts : Facts) (items : List Item) (number : ℕ) (item : Item) (m : Meaning)
    → slice_get (function_items items) number ≡ Some item
    → ((token : ℕ) (name : Ident) (params : List Param) (body : Expr) → item ≡ fact.Function token name params body → ⊥)
    → slice_get (meanings_in facts items) number ≡ Some m → m.signature.effects ≡ true
no_function_means facts items number item m e not g =
    let ms : List Meaning = meanings_in facts items in
    let r = means_at facts [] items number item e in
    let z : 0 + number ≡ number = omega arith in
    let k : r.meaning ≡ m = some_meaning r.meaning m (sym r.gets ∙ ap (λ n. slice_get ms n) z ∙ g) in
    ap (λ x. x.signature.effects) (sym k) ∙ no_function facts (take (0 + number) ms) item r.meaning r.means not

-- what is no named effects is a function
no_effects : (facts : Facts) (earlier : List Meaning) (item : Item) (m : Meaning) → meaning_of_item facts earlier item ≡ m ∷ []
    → ((token : ℕ) (name : Ident) (params : List Param) (body : List Effect) → item ≡ fact.Effects token name params body → ⊥)
    → m.signature.effects ≡ false
no_effects facts earlier (fact.Function token name params body) m e not = ap (λ x. x.signature.effects) (sym (one_meaning _ m e))
no_effects facts earlier (fact.Effects token name params body) m e not = absurd (not token name params body refl)
no_effects facts earlier _ m e not = absurd (no_one m e)

pub no_effects_means : (facts : Facts) (items : List Item) (number : ℕ) (item : Item) (m : Meaning)
    → slice_get (function_items items) number ≡ Some item
    → ((token : ℕ) (name : Ident) (params : List Param) (body : List Effect) → item ≡ fact.Effects token name params body → ⊥)
    → slice_get (meanings_in facts items) number ≡ Some m → m.signature.effects ≡ false
no_effects_means facts items number item m e not g =
    let ms : List Meaning = meanings_in facts items in
    let r = means_at facts [] items number item e in
    let z : 0 + number ≡ number = omega arith in
    let k : r.meaning ≡ m = some_meaning r.meaning m (sym r.gets ∙ ap (λ n. slice_get ms n) z ∙ g) in
    ap (λ x. x.signature.effects) (sym k) ∙ no_effects facts (take (0 + number) ms) item r.meaning r.means not

-- the meaning of a number
meaning_there : (facts : Facts) (items : List Item) (number : ℕ) (item : Item)
    → slice_get (function_items items) number ≡ Some item
    → (m : Meaning) × (slice_get (meanings_in facts items) number ≡ Some m)
meaning_there facts items number item e =
    let r = means_at facts [] items number item e in
    let z : 0 + number ≡ number = omega arith in
    (r.meaning, ap (λ n. slice_get (meanings_in facts items) n) (sym z) ∙ r.gets)

pub no_function_at : (facts : Facts) (items : List Item) (number : ℕ) (item : Item)
    → slice_get (function_items items) number ≡ Some item
    → ((token : ℕ) (name : Ident) (params : List Param) (body : Expr) → item ≡ fact.Function token name params body → ⊥)
    → (m : Meaning) × (slice_get (meanings_in facts items) number ≡ Some m) × (m.signature.effects ≡ true)
no_function_at facts items number item e not =
    let r = meaning_there facts items number item e in
    (r.0, r.1, no_function_means facts items number item r.0 e not r.1)

pub no_effects_at : (facts : Facts) (items : List Item) (number : ℕ) (item : Item)
    → slice_get (function_items items) number ≡ Some item
    → ((token : ℕ) (name : Ident) (params : List Param) (body : List Effect) → item ≡ fact.Effects token name params body → ⊥)
    → (m : Meaning) × (slice_get (meanings_in facts items) number ≡ Some m) × (m.signature.effects ≡ false)
no_effects_at facts items number item e not =
    let r = meaning_there facts items number item e in
    (r.0, r.1, no_effects_means facts items number item r.0 e not r.1)

pub as_many : (facts : Facts) (items : List Item) → length (meanings_in facts items) ≡ length (function_items items)
as_many facts items =
    sym (length-map (meanings_in facts items) meaning_name) ∙ ap length (names_after facts [] items)
    ∙ length-map (flat_map function_name items) ident_text ∙ counts facts items
