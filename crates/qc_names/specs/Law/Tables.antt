-- Symbol tables: what a map gives a name, what is entered, and the first place of a name.
use Rattle.std.specs.Prelude.{ℕ, suc, ◌≡◌, ◌+◌, ◌<◌, Bool, true, false, cond, ◌||◌, nat_eq, List, [], ◌∷◌, ◌++◌, length, map, take, slice_get, Option, None, Some, is_some, if◌then◌else◌}
use Rattle.std.specs.List.{list_any}
use Rattle.std.specs.Map.{lookup}
use Rattle.std.specs.Option.{option_or}
use Rattle.std.specs.Str.{bytes_eq}
use Rattle.std.specs.Cmp.Lexicographic.{pointwise}
use Rattle.std.specs.declared.vec.Vec.{Vec}
use Rattle.std.proofs.Common.{refl, ap, sym, ◌∙◌, arith, subst, get_or, true≢false}
use Rattle.std.proofs.lemmas.List.{map-append, take_more}
use Rattle.std.proofs.lemmas.List.Folds.{list_any-append}
use Rattle.std.proofs.lemmas.Cmp.{nat_list_eq_equiv}
use Rattle.std.proofs.lemmas.Slice.Eq.{bytes_eq-Decides}
use Rattle.indexmap.specs.IndexMap.{insert_entry}
use Rattle.qc_names.specs.ValueTables.{IsTableOf}
use Rattle.qc_names.specs.Tables.{named, number_at, entered, names_in, is_among, SameNames, HasNames, first_place_from, first_place, IsIndexOf}

-- the entries of a map, as a table is seen
abbrev pub shown : {A : Type 0} → List (Vec ℕ A × ℕ) → List (List ℕ × ℕ)
shown es = map (λ e. (e.0.items, e.1)) es

pub number_at-shown : {A : Type 0} (es : List (Vec ℕ A × ℕ)) (name : List ℕ) →
    lookup (λ k. pointwise nat_eq name k.items) es ≡ number_at (shown es) name
number_at-shown [] name = refl
number_at-shown (e ∷ es) name = ap (cond (bytes_eq name e.0.items) (Some e.1)) (number_at-shown es name)

pub shown-append : {A : Type 0} (es fs : List (Vec ℕ A × ℕ)) → shown (es ++ fs) ≡ shown es ++ shown fs
shown-append [] fs = refl
shown-append (e ∷ es) fs = ap (λ xs. (e.0.items, e.1) ∷ xs) (shown-append es fs)

pub bytes_eq-symm : (xs ys : List ℕ) → bytes_eq xs ys ≡ bytes_eq ys xs
bytes_eq-symm xs ys = nat_list_eq_equiv.symm xs ys

pub number_at-append : (es fs : List (List ℕ × ℕ)) (name : List ℕ) →
    number_at (es ++ fs) name ≡ option_or (number_at es name) (number_at fs name)
number_at-append [] fs name = refl
number_at-append (e ∷ es) fs name = by (bytes_eq name e.0) (number_at-append es fs name)
  where
    by : (b : Bool) → number_at (es ++ fs) name ≡ option_or (number_at es name) (number_at fs name) →
        cond b (Some e.1) (number_at (es ++ fs) name)
        ≡ option_or (cond b (Some e.1) (number_at es name)) (number_at fs name)
    by true rest = refl
    by false rest = rest

-- the entries of a map after a name that it has not
pub shown-inserted : {A : Type 0} (es : List (Vec ℕ A × ℕ)) (key : Vec ℕ A) (name : List ℕ) (number : ℕ) →
    key.items ≡ name → is_some (number_at (shown es) name) ≡ false →
    shown (insert_entry (λ a b. pointwise nat_eq a.items b.items) es key number) ≡ shown es ++ (name, number) ∷ []
shown-inserted [] key name number is absent = ap (λ n. (n, number) ∷ []) is
shown-inserted (e ∷ es) key name number is absent =
    by (pointwise nat_eq key.items e.0.items) (ap (λ n. pointwise nat_eq n e.0.items) is) (shown-inserted es key
    name number is) absent
  where
    by : (b : Bool) → b ≡ bytes_eq name e.0.items →
        (is_some (number_at (shown es) name) ≡ false →
        shown (insert_entry (λ a b. pointwise nat_eq a.items b.items) es key number) ≡ shown es
        ++ (name, number) ∷ []) →
        is_some (cond (bytes_eq name e.0.items) (Some e.1) (number_at (shown es) name)) ≡ false →
        shown (if b then (e.0, number) ∷ es else e ∷ insert_entry (λ a b. pointwise nat_eq a.items b.items) es key
        number)
        ≡ shown (e ∷ es) ++ (name, number) ∷ []
    by true same rest absent =
        absurd (true≢false (ap (λ b. is_some (cond b (Some e.1) (number_at (shown es) name))) same ∙ absent))
    by false other rest absent =
        ap (λ xs. (e.0.items, e.1) ∷ xs)
        (rest (ap (λ b. is_some (cond b (Some e.1) (number_at (shown es) name))) other ∙ absent))

pub entered-new : (es : List (List ℕ × ℕ)) (name : List ℕ) (number : ℕ) →
    is_some (number_at es name) ≡ false → entered es name number ≡ es ++ (name, number) ∷ []
entered-new es name number absent = ap (λ b. cond b es (es ++ (name, number) ∷ [])) absent

-- names of which some is this one
pub place-any : (at : ℕ) (names : List (List ℕ)) (name : List ℕ) →
    is_some (first_place_from at names name) ≡ list_any (bytes_eq name) names
place-any at [] name = refl
place-any at (n ∷ names) name = by (bytes_eq name n) (place-any (suc at) names name)
  where
    by : (b : Bool) → is_some (first_place_from (suc at) names name) ≡ list_any (bytes_eq name) names →
        is_some (cond b (Some at) (first_place_from (suc at) names name)) ≡ (b || list_any (bytes_eq name) names)
    by true rest = refl
    by false rest = rest

pub index-any : (names : List (List ℕ)) (name : List ℕ) →
    is_some (first_place names name) ≡ list_any (bytes_eq name) names
index-any names name = place-any 0 names name

pub place-append : (at : ℕ) (names more : List (List ℕ)) (name : List ℕ) →
    first_place_from at (names ++ more) name
    ≡ option_or (first_place_from at names name) (first_place_from (at + length names) more name)
place-append at [] more name = ap (λ n. first_place_from n more name) (omega arith)
place-append at (n ∷ names) more name =
    by (bytes_eq name n) (place-append (suc at) names more name
    ∙ ap (λ k. option_or (first_place_from (suc at) names name) (first_place_from k more name)) (omega arith))
  where
    by : (b : Bool) → first_place_from (suc at) (names ++ more) name
        ≡ option_or (first_place_from (suc at) names name) (first_place_from (at + length (n ∷ names)) more name) →
        cond b (Some at) (first_place_from (suc at) (names ++ more) name)
        ≡ option_or (cond b (Some at) (first_place_from (suc at) names name))
        (first_place_from (at + length (n ∷ names)) more name)
    by true rest = refl
    by false rest = rest

-- A place that is found is that of the name, and the name does not stand before.
pub record IsFirstPlace (names : List (List ℕ)) (name : List ℕ) (at place : ℕ) : Type 0 where
  pub index : ℕ
  pub place_is : place ≡ at + index
  pub within : index < length names
  pub is : slice_get names index ≡ Some name
  pub first : list_any (bytes_eq name) (take index names) ≡ false

pub place-found : (at : ℕ) (names : List (List ℕ)) (name : List ℕ) (place : ℕ) →
    first_place_from at names name ≡ Some place → IsFirstPlace names name at place
place-found at [] name place found = cc
place-found at (n ∷ names) name place found =
    by (bytes_eq name n) refl found (place-found (suc at) names name place)
  where
    by : (b : Bool) → bytes_eq name n ≡ b → cond b (Some at) (first_place_from (suc at) names name) ≡ Some place →
        (first_place_from (suc at) names name ≡ Some place → IsFirstPlace names name (suc at) place) →
        IsFirstPlace (n ∷ names) name at place
    by true same found rest =
        let same_place : at ≡ place = cc in
        record {
          index = 0;
          place_is = omega (arith, same_place);
          within = omega arith;
          is = ap Some (sym ((bytes_eq-Decides name n).0 same));
          first = refl;
        }
    by false other found rest =
        let r = rest found in
        record {
          index = suc r.index;
          place_is = omega (arith, r.place_is);
          within = omega (arith, r.within);
          is = r.is;
          first = ap (λ b. b || list_any (bytes_eq name) (take r.index names)) other ∙ r.first;
        }

place-is : (names : List (List ℕ)) (name : List ℕ) (place : ℕ) → (f : IsFirstPlace names name 0 place) →
    f.index ≡ place
place-is names name place f = omega (arith, f.place_is)

pub index-within : (names : List (List ℕ)) (name : List ℕ) (place : ℕ) → first_place names name ≡ Some place →
    place < length names
index-within names name place found =
    let f = place-found 0 names name place found in omega (arith, f.within, f.place_is)

pub index-is : (names : List (List ℕ)) (name : List ℕ) (place : ℕ) → first_place names name ≡ Some place →
    slice_get names place ≡ Some name
index-is names name place found =
    let f = place-found 0 names name place found in
    ap (slice_get names) (sym (place-is names name place f)) ∙ f.is

pub index-first : (names : List (List ℕ)) (name : List ℕ) (place : ℕ) → first_place names name ≡ Some place →
    list_any (bytes_eq name) (take place names) ≡ false
index-first names name place found =
    let f = place-found 0 names name place found in
    ap (λ n. list_any (bytes_eq name) (take n names)) (sym (place-is names name place f)) ∙ f.first

-- what an entered name changes
pub number-entered : (es : List (List ℕ × ℕ)) (name : List ℕ) (number : ℕ) (other : List ℕ) →
    number_at (entered es name number) other
    ≡ option_or (number_at es other) (cond (bytes_eq other name) (Some number) None)
number-entered es name number other = by (number_at es name) refl
  where
    by : (found : Option ℕ) → number_at es name ≡ found →
        number_at (cond (is_some found) es (es ++ (name, number) ∷ [])) other
        ≡ option_or (number_at es other) (cond (bytes_eq other name) (Some number) None)
    by None found = number_at-append es ((name, number) ∷ []) other
    by (Some n) found = inner (bytes_eq other name) refl
      where
        right : (o : Option ℕ) → o ≡ option_or o None
        right None = refl
        right (Some n) = refl

        inner : (b : Bool) → bytes_eq other name ≡ b →
            number_at es other ≡ option_or (number_at es other) (cond b (Some number) None)
        inner true same =
            let there : number_at es other ≡ Some n =
            ap (number_at es) ((bytes_eq-Decides other name).0 same) ∙ found in
            there ∙ ap (λ o. option_or o (Some number)) (sym there)
        inner false other_name = right (number_at es other)

pub entered-any : (es : List (List ℕ × ℕ)) (name : List ℕ) (number : ℕ) (other : List ℕ) →
    is_some (number_at (entered es name number) other) ≡ (bytes_eq name other || is_some (number_at es other))
entered-any es name number other =
    ap is_some (number-entered es name number other)
    ∙ ap (λ b. is_some (option_or (number_at es other) (cond b (Some number) None))) (bytes_eq-symm other name)
    ∙ by (number_at es other) (bytes_eq name other)
  where
    by : (o : Option ℕ) (b : Bool) → is_some (option_or o (cond b (Some number) None)) ≡ (b || is_some o)
    by None true = refl
    by None false = refl
    by (Some n) true = refl
    by (Some n) false = refl

-- the names of which there is a number are those of the entries
pub names-any : (es : List (List ℕ × ℕ)) (name : List ℕ) →
    is_some (number_at es name) ≡ list_any (bytes_eq name) (names_in es)
names-any [] name = refl
names-any (e ∷ es) name = by (bytes_eq name e.0) (names-any es name)
  where
    by : (b : Bool) → is_some (number_at es name) ≡ list_any (bytes_eq name) (names_in es) →
        is_some (cond b (Some e.1) (number_at es name)) ≡ (b || list_any (bytes_eq name) (names_in es))
    by true rest = refl
    by false rest = rest

pub ruleset names_known = names-any

pub names-entered : (es : List (List ℕ × ℕ)) (name : List ℕ) (number : ℕ) →
    names_in (entered es name number)
    ≡ cond (list_any (bytes_eq name) (names_in es)) (names_in es) (names_in es ++ name ∷ [])
names-entered es name number =
    by (is_some (number_at es name)) ∙ ap (λ b. cond b (names_in es) (names_in es ++ name ∷ [])) (names-any es name)
  where
    by : (b : Bool) → names_in (cond b es (es ++ (name, number) ∷ []))
        ≡ cond b (names_in es) (names_in es ++ name ∷ [])
    by true = refl
    by false = map-append (λ e. e.0) es ((name, number) ∷ [])

-- A table of no names, and one of the next name.
pub index-none : IsIndexOf [] []
index-none = record { places = λ name. refl }

pub index-entered : (names : List (List ℕ)) (es : List (List ℕ × ℕ)) (name : List ℕ) (place : ℕ) →
    IsIndexOf names es → place ≡ length names → IsIndexOf (names ++ name ∷ []) (entered es name place)
index-entered names es name place index is = record {
  places = λ other. number-entered es name place other
      ∙ ap (λ o. option_or o (cond (bytes_eq other name) (Some place) None)) (index.places other)
      ∙ ap (λ n. option_or (first_place names other) (cond (bytes_eq other name) (Some n) None)) counted
      ∙ sym (place-append 0 names (name ∷ []) other);
}
  where
    counted : place ≡ 0 + length names
    counted = omega (arith, is)

-- A table of names has numbers for these and no other.
pub index-there : (names : List (List ℕ)) (es : List (List ℕ × ℕ)) (name : List ℕ) → IsIndexOf names es →
    is_some (number_at es name) ≡ list_any (bytes_eq name) names
index-there names es name index = ap is_some (index.places name) ∙ index-any names name

-- each list has its own names
pub same_names : (names : List (List ℕ)) → SameNames names names
same_names names = record { same = λ name. refl }

-- a name that is added to the end
pub one_more : (names : List (List ℕ)) (text name : List ℕ)
    → is_among (names ++ text ∷ []) name ≡ (bytes_eq name text || is_among names name)
one_more names text name =
    list_any-append (bytes_eq name) names (text ∷ []) ∙ by (is_among names name) (bytes_eq name text)
  where
    by : (a b : Bool) → (a || (b || false)) ≡ (b || a)
    by true true = refl
    by true false = refl
    by false true = refl
    by false false = refl

-- a table after one more name
pub has_entered : (es : List (List ℕ × ℕ)) (names : List (List ℕ)) (text : List ℕ) (number : ℕ) → HasNames es names
    → HasNames (entered es text number) (names ++ text ∷ [])
has_entered es names text number has = record {
  same = λ name. sym (names-any (entered es text number) name)
      ∙ entered-any es text number name
      ∙ ap (λ b. b || is_some (number_at es name)) (bytes_eq-symm text name)
      ∙ ap (λ b. bytes_eq name text || b) (names-any es name ∙ has.same name)
      ∙ sym (one_more names text name);
}

-- a loop that enters the name of each
pub entered_more : {A : Type 0} (f : A → List ℕ) (old new : List (List ℕ × ℕ)) (xs : List A) (i : ℕ) (x : A)
    (text : List ℕ) → i < length xs → x ≡ get_or xs i x → text ≡ f x → new ≡ entered old text 0
    → HasNames old (map f (take i xs)) → HasNames new (map f (take (i + 1) xs))
entered_more f old new xs i x text within is same next has =
    let taken : map f (take i xs) ++ text ∷ [] ≡ map f (take (i + 1) xs) =
    ap (λ t. map f (take i xs) ++ t ∷ []) same
    ∙ ap (λ y. map f (take i xs) ++ f y ∷ []) is
    ∙ sym (map-append f (take i xs) (get_or xs i x ∷ []))
    ∙ ap (map f) (sym (take_more xs i x within)) in
    subst (λ es. HasNames es (map f (take (i + 1) xs))) (sym next)
    (subst (HasNames (entered old text 0)) taken (has_entered old (map f (take i xs)) text 0 has))

-- the value at a place that is counted from a number, or none
abbrev IsValueAt : {A : Type 0} → ℕ → List A → Option A → Option ℕ → Type 0
IsValueAt at values found None = found ≡ None
IsValueAt at values found (Some n) = (k : ℕ) × (n ≡ at + k) × (slice_get values k ≡ found)

-- one value more before the others
one_before : {A : Type 0} (at : ℕ) (v : A) (values : List A) (found : Option A) (o : Option ℕ) →
    IsValueAt (suc at) values found o → IsValueAt at (v ∷ values) found o
one_before at v values found None is = is
one_before at v values found (Some n) is = (suc is.0, omega (arith, is.1), is.2)

-- the first place of a name is that of what it stands for
value_at : {A : Type 0} (at : ℕ) (pairs : List (List ℕ × A)) (name : List ℕ) →
    IsValueAt at (map (λ p. p.1) pairs) (named pairs name) (first_place_from at (map (λ p. p.0) pairs) name)
value_at at [] name = refl
value_at {A} at (p ∷ pairs) name = by (bytes_eq name p.0) (value_at (suc at) pairs name)
  where
    by : (b : Bool) →
        IsValueAt (suc at) (map (λ p. p.1) pairs) (named pairs name)
        (first_place_from (suc at) (map (λ p. p.0) pairs) name) →
        IsValueAt at (p.1 ∷ map (λ p. p.1) pairs) (cond b (Some p.1) (named pairs name))
        (cond b (Some at) (first_place_from (suc at) (map (λ p. p.0) pairs) name))
    by true rest = (0, omega arith, refl)
    by false rest = one_before at p.1 (map (λ p. p.1) pairs) (named pairs name) _ rest

-- what the table has at the number of a name
table_has : {A : Type 0} (pairs : List (List ℕ × A)) (values : List A) (es : List (List ℕ × ℕ)) (name : List ℕ) →
    IsTableOf pairs values es → IsValueAt 0 (map (λ p. p.1) pairs) (named pairs name) (number_at es name)
table_has pairs values es name is =
    subst (λ o. IsValueAt 0 (map (λ p. p.1) pairs) (named pairs name) o) (sym (is.index.places name))
    (value_at 0 pairs name)

-- a name that has no number stands for nothing
pub table-misses : {A : Type 0} (pairs : List (List ℕ × A)) (values : List A) (es : List (List ℕ × ℕ))
    (name : List ℕ) → IsTableOf pairs values es → number_at es name ≡ None → named pairs name ≡ None
table-misses pairs values es name is none =
    subst (λ o. IsValueAt 0 (map (λ p. p.1) pairs) (named pairs name) o) none (table_has pairs values es name is)

-- a name with a number stands for the value of that number
pub table-gives : {A : Type 0} (pairs : List (List ℕ × A)) (values : List A) (es : List (List ℕ × ℕ))
    (name : List ℕ) (n : ℕ) → IsTableOf pairs values es → number_at es name ≡ Some n →
    slice_get values n ≡ named pairs name
table-gives pairs values es name n is found =
    let h = subst (λ o. IsValueAt 0 (map (λ p. p.1) pairs) (named pairs name) o) found
    (table_has pairs values es name is) in
    let same : n ≡ h.0 = omega (arith, h.1) in
    ap (slice_get values) same ∙ ap (λ vs. slice_get vs h.0) is.values_are ∙ h.2
