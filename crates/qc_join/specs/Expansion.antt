-- What the patterns of a coding's text come to.
use Rattle.std.specs.Prelude.{ℕ, suc, ◌+◌, ◌-◌, ◌^◌, List, [], ◌∷◌, ◌++◌, cond, map}
use Rattle.std.specs.Prelude.{Bool, ◌&&◌, nat_eq, nat_lt, nat_le, if◌then◌else◌, Option, None, Some}
use Rattle.qc_names.specs.Tables.{named}
use Rattle.qc_sled.specs.declared.syntax.Field.{Field}
use Rattle.qc_sled.specs.declared.syntax.Item.{Item}
use Rattle.qc_sled.specs.declared.syntax.Item.TheVariants.{Fields, Pattern, Constructor}
use Rattle.qc_sled.specs.declared.syntax.Pattern as tree
use Rattle.qc_sled.specs.declared.syntax.Pattern.{fold-Pattern, fold-roll-Pattern}
use Rattle.qc_sled.specs.declared.syntax.Pattern.TheOpen.{Pattern-F, Name, Equal, Group, Conjunction, Sequence, Alternatives}
use Rattle.qc_sled.specs.declared.syntax.Value.{Value}
use Rattle.qc_sled.specs.declared.syntax.Value.TheVariants as value_of
use Rattle.qc_descr.specs.declared.coding.Bit.{Bit}
use Rattle.qc_join.specs.declared.expanded.Expanded.{Expanded}
use Rattle.qc_join.specs.declared.expanded.Expanded.TheVariants.{Unfit}
use Rattle.qc_join.specs.declared.expanded.FieldPlace.{FieldPlace}
use Rattle.qc_join.specs.declared.expanded.Joint.TheVariants.{AtOnce, InTurn}
use Rattle.qc_join.specs.Alternatives.{all_joined, one_of, constant_bits, piece_bits, is_field, field_size, field_with}

-- the fields of one item of this number, whose token has so many bits
abbrev pub places_of : ℕ → ℕ → List Field → List (List ℕ × FieldPlace)
places_of declaration bits [] = []
places_of declaration bits (f ∷ fields) =
    (f.name.text, record { declaration = declaration; bits = bits; high = f.high.value; low = f.low.value })
    ∷ places_of declaration bits fields

-- the fields of items, of which the first has this number
abbrev pub fields_from : ℕ → List Item → List (List ℕ × FieldPlace)
fields_from number [] = []
fields_from number (Fields token name bits fields ∷ items) =
    places_of number bits.value fields ++ fields_from (suc number) items
fields_from number (Pattern token name body ∷ items) = fields_from (suc number) items
fields_from number (Constructor token name params body ∷ items) = fields_from (suc number) items

abbrev pub fields_of : List Item → List (List ℕ × FieldPlace)
fields_of items = fields_from 0 items

-- What names stand for in a pattern: fields, other patterns, and operands, each with its number and its number of bits,
-- if it has one.
pub record Scope : Type 0 where
  pub fields : List (List ℕ × FieldPlace)
  pub patterns : List (List ℕ × Expanded)
  pub operands : List (List ℕ × (ℕ × Option ℕ))

-- the bits of an operand from the lowest one to the highest one, where it has these, and they are so many
abbrev pub piece_if : Bool → ℕ → ℕ → ℕ → Option (List Bit)
piece_if fits operand low count = if fits then Some (piece_bits operand low count) else None

-- a whole operand of so many bits
abbrev pub whole_operand : Option (ℕ × Option ℕ) → ℕ → Option (List Bit)
whole_operand None count = None
whole_operand (Some (number, None)) count = None
whole_operand (Some (number, Some size)) count = piece_if (nat_eq size count) number 0 count

-- some bits of an operand
abbrev pub part_of_operand : Option (ℕ × Option ℕ) → ℕ → ℕ → ℕ → Option (List Bit)
part_of_operand None high low count = None
part_of_operand (Some (number, None)) high low count = None
part_of_operand (Some (number, Some size)) high low count =
    piece_if (nat_le low high && nat_lt high size && nat_eq (high - low + 1) count) number low count

-- what stands in a field of so many bits, if it fits
abbrev pub bits_of_value : Scope → Value → ℕ → Option (List Bit)
bits_of_value scope (value_of.Number n) count =
    if nat_lt n.value (2 ^ count) then Some (constant_bits count n.value) else None
bits_of_value scope (value_of.Operand name) count = whole_operand (named scope.operands name.text) count
bits_of_value scope (value_of.Bits name high low) count =
    part_of_operand (named scope.operands name.text) high.value low.value count

-- a field that is equal to a value
abbrev pub field_equal : Scope → Option FieldPlace → Value → Expanded
field_equal scope None value = Unfit
field_equal scope (Some f) value =
    if is_field f then field_with f (bits_of_value scope value (field_size f)) else Unfit

abbrev pub pattern_named : Option Expanded → Expanded
pattern_named None = Unfit
pattern_named (Some e) = e

abbrev pub expanded_layer : Pattern-F (Scope → Expanded) → Scope → Expanded
expanded_layer (Name name) scope = pattern_named (named scope.patterns name.text)
expanded_layer (Equal field value) scope = field_equal scope (named scope.fields field.text) value
expanded_layer (Group token inner) scope = inner scope
expanded_layer (Conjunction parts) scope = all_joined AtOnce (map (λ expanded. expanded scope) parts)
expanded_layer (Sequence parts) scope = all_joined InTurn (map (λ expanded. expanded scope) parts)
expanded_layer (Alternatives parts) scope = one_of (map (λ expanded. expanded scope) parts)

-- what a pattern comes to where names stand for this
unfoldable pub expanded : tree.Pattern → Scope → Expanded
expanded = fold-Pattern (Scope → Expanded) expanded_layer

-- the patterns of an item behind others, each with what it comes to
abbrev pub patterns_in : List (List ℕ × FieldPlace) → List (List ℕ × Expanded) → Item → List (List ℕ × Expanded)
patterns_in fields patterns (Fields token name bits parts) = []
patterns_in fields patterns (Pattern token name body) =
    (name.text, expanded body (record { fields = fields; patterns = patterns; operands = [] })) ∷ []
patterns_in fields patterns (Constructor token name params body) = []

-- the patterns of items behind others
abbrev pub patterns_after
    : List (List ℕ × FieldPlace) → List (List ℕ × Expanded) → List Item → List (List ℕ × Expanded)
patterns_after fields patterns [] = patterns
patterns_after fields patterns (i ∷ items) =
    patterns_after fields (patterns ++ patterns_in fields patterns i) items

abbrev pub patterns_of : List Item → List (List ℕ × Expanded)
patterns_of items = patterns_after (fields_of items) [] items
