-- Each pattern comes to what is sound, where the names of its scope do.
use Rattle.std.specs.Prelude.{ℕ, zero, suc, ◌≡◌, ◌+◌, ◌-◌, ◌/◌, ◌^◌, ◌<◌, ◌≤◌, true, ◌&&◌, nat_eq, nat_lt, nat_le}
use Rattle.std.specs.Prelude.{cond, List, [], ◌∷◌, ◌++◌, length, map, slice_index, Option, None, Some, IfSome}
use Rattle.std.specs.List.{AllByRecursion}
use Rattle.std.specs.Str.{bytes_eq}
use Rattle.std.proofs.Common.{refl, ap, sym, ◌∙◌, subst, arith}
use Rattle.std.proofs.lemmas.Bool.{and_parts, and_from, cond_both, eqb-true, leb-true, ltb-true, lt-ltb, eq-eqb, ne_eqb, cond-true, cond-false}
use Rattle.qc_lists.specs.Law.Lists.{each_append}
use Rattle.qc_names.specs.Tables.{named}
use Rattle.qc_grammar.specs.declared.cursor.Ident.{Ident}
use Rattle.qc_grammar.specs.declared.cursor.Number.{Number}
use Rattle.qc_sled.specs.declared.syntax.Field.{Field}
use Rattle.qc_sled.specs.declared.syntax.Item.{Item}
use Rattle.qc_sled.specs.declared.syntax.Item.TheVariants.{Fields, Pattern, Constructor}
use Rattle.qc_sled.specs.declared.syntax.Pattern as tree
use Rattle.qc_sled.specs.declared.syntax.Pattern.{map-Pattern, ind-Pattern, fold-roll-Pattern}
use Rattle.qc_sled.specs.declared.syntax.Pattern.TheOpen.{Pattern-F, Name, Equal, Group, Conjunction, Sequence, Alternatives}
use Rattle.qc_sled.specs.declared.syntax.Value.{Value}
use Rattle.qc_sled.specs.declared.syntax.Value.TheVariants as value_of
use Rattle.qc_join.specs.declared.expanded.Expanded.{Expanded}
use Rattle.qc_join.specs.declared.expanded.Joint.TheVariants.{AtOnce, InTurn}
use Rattle.qc_join.specs.declared.expanded.Expanded.TheVariants.{Unfit}
use Rattle.qc_join.specs.declared.expanded.FieldPlace.{FieldPlace}
use Rattle.qc_join.specs.Alternatives.{constant_bits, piece_bits, is_field, field_size, field_with}
use Rattle.qc_join.specs.Expansion.{places_of, fields_from, fields_of, Scope, whole_operand, part_of_operand, bits_of_value, field_equal, pattern_named, expanded_layer, expanded, patterns_in, patterns_after, patterns_of}
use Rattle.qc_join.proofs.Sound.{IsSound, AreSound, FillField, sound_all_joined, sound_one_of, sound_field}

-- what a name stands for is such, where all are
named_is : {A : Type 0} (P : A → Type 0) (es : List (List ℕ × A)) (name : List ℕ) → AllByRecursion (λ e. P e.1) es
    → IfSome (named es name) P
named_is P [] name h = tt
named_is P (e ∷ es) name h =
    cond_both (bytes_eq name e.0) (Some e.1) (named es name) (λ o. IfSome o P) (λ is. h.0) (λ is. named_is P es name h.1)

-- an operand of this number has this size, if it has one
abbrev pub AgreesSize : List ℕ → ℕ → Option ℕ → Type 0
AgreesSize sizes number None = Unit {0}
AgreesSize sizes number (Some n) = (number < length sizes) × (slice_index sizes number ≡ n)

abbrev pub Agrees : List ℕ → ℕ × Option ℕ → Type 0
Agrees sizes e = AgreesSize sizes e.0 e.1

-- a field has the bits of its declaration
abbrev pub IsOwnField : (ℕ → ℕ) → FieldPlace → Type 0
IsOwnField declared f = f.bits ≡ declared f.declaration

-- what names stand for is sound
pub record IsSoundScope (declared : ℕ → ℕ) (sizes : List ℕ) (scope : Scope) : Type 0 where
  pub fields : AllByRecursion (λ e. IsOwnField declared e.1) scope.fields
  pub patterns : AllByRecursion (λ e. IsSound declared sizes e.1) scope.patterns
  pub operands : AllByRecursion (λ e. Agrees sizes e.1) scope.operands

-- bits of numbers
constants_fill : (sizes : List ℕ) (n value : ℕ) → FillField sizes n (Some (constant_bits n value))
unfolding constant_bits
constants_fill sizes zero value = (refl, tt)
constants_fill sizes (suc n) value =
    let rest = constants_fill sizes n (value / 2) in
    (ap suc rest.0, (refl, rest.1))

-- bits of an operand
pieces_fill : (sizes : List ℕ) (operand low n : ℕ) → operand < length sizes → low + n ≤ slice_index sizes operand
    → FillField sizes n (Some (piece_bits operand low n))
unfolding piece_bits
pieces_fill sizes operand low zero there h = (refl, tt)
pieces_fill sizes operand low (suc n) there h =
    let rest = pieces_fill sizes operand (suc low) n there (omega (arith, h)) in
    let below : low < slice_index sizes operand = omega (arith, h) in (
      ap suc rest.0,
      (
        and_from (nat_lt operand (length sizes)) (nat_lt low (slice_index sizes operand)) (lt-ltb operand (length sizes) there)
            (lt-ltb low (slice_index sizes operand) below),
        rest.1,
      ),
    )

-- a whole operand
whole_fills : (sizes : List ℕ) (o : Option (ℕ × Option ℕ)) (count : ℕ) → IfSome o (Agrees sizes)
    → FillField sizes count (whole_operand o count)
whole_fills sizes None count h = tt
whole_fills sizes (Some (number, None)) count h = tt
whole_fills sizes (Some (number, Some size)) count h =
    cond_both (nat_eq size count) (Some (piece_bits number 0 count)) None (FillField sizes count)
    (λ e. pieces_fill sizes number 0 count h.0 (omega (arith, h.1, eqb-true size count e))) (λ e. tt)

-- some bits of an operand
part_fills : (sizes : List ℕ) (o : Option (ℕ × Option ℕ)) (high low count : ℕ) → IfSome o (Agrees sizes)
    → FillField sizes count (part_of_operand o high low count)
part_fills sizes None high low count h = tt
part_fills sizes (Some (number, None)) high low count h = tt
part_fills sizes (Some (number, Some size)) high low count h =
    cond_both (nat_le low high && nat_lt high size && nat_eq (high - low + 1) count) (Some (piece_bits number low count))
    None (FillField sizes count)
    (λ e.
    let parts : ((nat_le low high && nat_lt high size) ≡ true) × (nat_eq (high - low + 1) count ≡ true) =
    and_parts (nat_le low high && nat_lt high size) (nat_eq (high - low + 1) count) e in
    let order : (nat_le low high ≡ true) × (nat_lt high size ≡ true) =
    and_parts (nat_le low high) (nat_lt high size) parts.0 in
    let least : low ≤ high = leb-true low high order.0 in
    let most : high < size = ltb-true high size order.1 in
    let many : high - low + 1 ≡ count = eqb-true (high - low + 1) count parts.1 in
    let same : slice_index sizes number ≡ size = h.1 in
    pieces_fill sizes number low count h.0 (omega (arith, least, most, many, same)))
    (λ e. tt)

-- what a field may be
value_fills : (declared : ℕ → ℕ) (sizes : List ℕ) (scope : Scope) → IsSoundScope declared sizes scope → (value : Value) (count : ℕ)
    → FillField sizes count (bits_of_value scope value count)
value_fills declared sizes scope h (value_of.Number n) count =
    cond_both (nat_lt n.value (2 ^ count)) (Some (constant_bits count n.value)) None (FillField sizes count)
    (λ e. constants_fill sizes count n.value) (λ e. tt)
value_fills declared sizes scope h (value_of.Operand name) count =
    whole_fills sizes (named scope.operands name.text) count (named_is (Agrees sizes) scope.operands name.text h.operands)
value_fills declared sizes scope h (value_of.Bits name high low) count =
    part_fills sizes (named scope.operands name.text) high.value low.value count
    (named_is (Agrees sizes) scope.operands name.text h.operands)

-- a field that is equal to a value
equal_is : (declared : ℕ → ℕ) (sizes : List ℕ) (scope : Scope) → IsSoundScope declared sizes scope
    → (field : Option FieldPlace) (value : Value) → IfSome field (IsOwnField declared)
    → IsSound declared sizes (field_equal scope field value)
equal_is declared sizes scope h None value own = tt
equal_is declared sizes scope h (Some f) value own =
    cond_both (is_field f) (field_with f (bits_of_value scope value (field_size f))) Unfit (IsSound declared sizes)
    (λ e. sound_field declared sizes f (bits_of_value scope value (field_size f)) e own
    (value_fills declared sizes scope h value (field_size f)))
    (λ e. tt)

-- a pattern with a name
pattern_is : (declared : ℕ → ℕ) (sizes : List ℕ) (e : Option Expanded) → IfSome e (IsSound declared sizes)
    → IsSound declared sizes (pattern_named e)
pattern_is declared sizes None h = tt
pattern_is declared sizes (Some e) h = h

module _ (declared : ℕ → ℕ) (sizes : List ℕ) where
  -- what makes sound alternatives of sound scopes
  IsKept : (Scope → Expanded) → Type 0
  IsKept meaning = (scope : Scope) → IsSoundScope declared sizes scope → IsSound declared sizes (meaning scope)

  -- a pattern that does so
  abbrev IsSoundPattern : tree.Pattern → Type 0
  IsSoundPattern p = IsKept (expanded p)

  -- the parts of a pattern
  parts_are : (parts : List ((p : tree.Pattern) × IsSoundPattern p)) (scope : Scope) → IsSoundScope declared sizes scope
      → AreSound declared sizes (map (λ meaning. meaning scope) (map expanded (map (λ a. a.0) parts)))
  unfolding IsKept
  parts_are [] scope h = tt
  parts_are (a ∷ parts) scope h = (a.1 scope h, parts_are parts scope h)

  -- one layer of a pattern
  sound_step : (y : Pattern-F ((p : tree.Pattern) × IsSoundPattern p)) → IsKept (expanded_layer (map-Pattern tree.Pattern (Scope → Expanded) expanded (map-Pattern ((p : tree.Pattern) × IsSoundPattern p) tree.Pattern (λ a. a.0) y)))
  unfolding IsKept
  sound_step (Name name) = λ scope h.
      pattern_is declared sizes (named scope.patterns name.text)
      (named_is (IsSound declared sizes) scope.patterns name.text h.patterns)
  sound_step (Equal field value) = λ scope h.
      equal_is declared sizes scope h (named scope.fields field.text) value
      (named_is (IsOwnField declared) scope.fields field.text h.fields)
  sound_step (Group token a) = λ scope h. a.1 scope h
  sound_step (Conjunction parts) = λ scope h.
      sound_all_joined declared sizes AtOnce (map (λ meaning. meaning scope) (map expanded (map (λ a. a.0) parts)))
      (parts_are parts scope h)
  sound_step (Sequence parts) = λ scope h.
      sound_all_joined declared sizes InTurn (map (λ meaning. meaning scope) (map expanded (map (λ a. a.0) parts)))
      (parts_are parts scope h)
  sound_step (Alternatives parts) = λ scope h.
      sound_one_of declared sizes (map (λ meaning. meaning scope) (map expanded (map (λ a. a.0) parts)))
      (parts_are parts scope h)

  -- each pattern, by induction
  kept : (p : tree.Pattern) → IsSoundPattern p
  unfolding expanded
  kept = ind-Pattern IsSoundPattern (λ x y is.
      subst IsKept (sym (fold-roll-Pattern (Scope → Expanded) expanded_layer x))
      (subst (λ z. IsKept (expanded_layer (map-Pattern tree.Pattern (Scope → Expanded) expanded z))) is (sound_step y)))

  -- A pattern comes to what is sound in a sound scope.
  pub sound_pattern : (p : tree.Pattern) (scope : Scope) → IsSoundScope declared sizes scope
      → IsSound declared sizes (expanded p scope)
  unfolding IsKept
  sound_pattern p scope h = kept p scope h

-- the bits of the token that the item of a number declares, where the first of the items has this number
abbrev pub bits_from : ℕ → List Item → ℕ → ℕ
bits_from first [] number = 0
bits_from first (Fields token name bits fields ∷ items) number =
    cond (nat_eq number first) bits.value (bits_from (suc first) items number)
bits_from first (Pattern token name body ∷ items) number = bits_from (suc first) items number
bits_from first (Constructor token name params body ∷ items) number = bits_from (suc first) items number

abbrev pub bits_declared : List Item → ℕ → ℕ
bits_declared items number = bits_from 0 items number

-- a field of one of the items
record IsFieldFrom (first : ℕ) (items : List Item) (f : FieldPlace) : Type 0 where
  pub after : first ≤ f.declaration
  pub own : f.bits ≡ bits_from first items f.declaration

-- what is such is also so, where each such thing is so
all_weaker : {A : Type 0} (P Q : A → Type 0) (xs : List A) → ((x : A) → P x → Q x) → AllByRecursion P xs
    → AllByRecursion Q xs
all_weaker P Q [] f h = tt
all_weaker P Q (x ∷ xs) f h = (f x h.0, all_weaker P Q xs f h.1)

-- a field of one of the items behind one of them
behind_fields : (first : ℕ) (token : ℕ) (name : Ident) (bits : Number) (fields : List Field) (items : List Item)
    (f : FieldPlace) → IsFieldFrom (suc first) items f → IsFieldFrom first (Fields token name bits fields ∷ items) f
behind_fields first token name bits fields items f h =
    record {
      after = omega (arith, h.after);
      own =
          h.own ∙ sym (cond-false (nat_eq f.declaration first) bits.value (bits_from (suc first) items f.declaration)
          (ne_eqb f.declaration first (λ e. omega (arith, h.after, e))));
    }

-- the fields of one item
places_are : (first bits : ℕ) (items : List Item) → bits ≡ bits_from first items first → (fields : List Field)
    → AllByRecursion (λ e. IsFieldFrom first items e.1) (places_of first bits fields)
places_are first bits items e [] = tt
places_are first bits items e (f ∷ fields) =
    (record { after = omega arith; own = e }, places_are first bits items e fields)

-- the fields of items
fields_are : (first : ℕ) (items : List Item) → AllByRecursion (λ e. IsFieldFrom first items e.1) (fields_from first items)
fields_are first [] = tt
fields_are first (Fields token name bits fields ∷ items) =
    each_append (λ e. IsFieldFrom first (Fields token name bits fields ∷ items) e.1) (places_of first bits.value fields)
    (fields_from (suc first) items)
    (places_are first bits.value (Fields token name bits fields ∷ items)
    (sym (cond-true (nat_eq first first) bits.value (bits_from (suc first) items first) (eq-eqb first first refl))) fields)
    (all_weaker (λ e. IsFieldFrom (suc first) items e.1) (λ e. IsFieldFrom first (Fields token name bits fields ∷ items) e.1)
    (fields_from (suc first) items) (λ e h. behind_fields first token name bits fields items e.1 h)
    (fields_are (suc first) items))
fields_are first (Pattern token name body ∷ items) =
    all_weaker (λ e. IsFieldFrom (suc first) items e.1) (λ e. IsFieldFrom first (Pattern token name body ∷ items) e.1)
    (fields_from (suc first) items) (λ e h. record { after = omega (arith, h.after); own = h.own })
    (fields_are (suc first) items)
fields_are first (Constructor token name params body ∷ items) =
    all_weaker (λ e. IsFieldFrom (suc first) items e.1)
    (λ e. IsFieldFrom first (Constructor token name params body ∷ items) e.1)
    (fields_from (suc first) items) (λ e h. record { after = omega (arith, h.after); own = h.own })
    (fields_are (suc first) items)

-- each field has the bits of its declaration
pub own_fields : (items : List Item) → AllByRecursion (λ e. IsOwnField (bits_declared items) e.1) (fields_of items)
own_fields items =
    all_weaker (λ e. IsFieldFrom 0 items e.1) (λ e. IsOwnField (bits_declared items) e.1) (fields_from 0 items)
    (λ e h. h.own) (fields_are 0 items)

-- the patterns of an item behind sound ones
patterns_are : (declared : ℕ → ℕ) (sizes : List ℕ) (fields : List (List ℕ × FieldPlace))
    → AllByRecursion (λ e. IsOwnField declared e.1) fields → (patterns : List (List ℕ × Expanded))
    → AllByRecursion (λ e. IsSound declared sizes e.1) patterns → (item : Item)
    → AllByRecursion (λ e. IsSound declared sizes e.1) (patterns_in fields patterns item)
patterns_are declared sizes fields own patterns h (Fields token name bits parts) = tt
patterns_are declared sizes fields own patterns h (Pattern token name body) = (
  sound_pattern declared sizes body (record { fields = fields; patterns = patterns; operands = [] })
      (record { fields = own; patterns = h; operands = tt }),
  tt,
)
patterns_are declared sizes fields own patterns h (Constructor token name params body) = tt

-- the same of several items
patterns_after_are : (declared : ℕ → ℕ) (sizes : List ℕ) (fields : List (List ℕ × FieldPlace))
    → AllByRecursion (λ e. IsOwnField declared e.1) fields → (patterns : List (List ℕ × Expanded))
    → AllByRecursion (λ e. IsSound declared sizes e.1) patterns → (items : List Item)
    → AllByRecursion (λ e. IsSound declared sizes e.1) (patterns_after fields patterns items)
patterns_after_are declared sizes fields own patterns h [] = h
patterns_after_are declared sizes fields own patterns h (i ∷ items) =
    patterns_after_are declared sizes fields own (patterns ++ patterns_in fields patterns i)
    (each_append (λ e. IsSound declared sizes e.1) patterns (patterns_in fields patterns i) h
    (patterns_are declared sizes fields own patterns h i))
    items

-- Each pattern with a name is sound, whatever the operands: none stands in it.
pub sound_patterns : (sizes : List ℕ) (items : List Item)
    → AllByRecursion (λ e. IsSound (bits_declared items) sizes e.1) (patterns_of items)
sound_patterns sizes items =
    patterns_after_are (bits_declared items) sizes (fields_of items) (own_fields items) [] tt items
