-- The faults of a coding's text among names. Tokens, fields, patterns and constructors are names of four kinds, and so
-- are the parameters of each constructor.
use Rattle.std.specs.Prelude.{ℕ, Bool, List, [], ◌∷◌, ◌++◌, map}
use Rattle.std.specs.List.{flat_map}
use Rattle.std.specs.Str.{bytes_eq}
use Rattle.qc_grammar.specs.declared.cursor.Ident.{Ident}
use Rattle.qc_names.specs.Reported as faults
use Rattle.qc_names.specs.Seen as seen
use Rattle.qc_names.specs.Seen.{texts_of}
use Rattle.qc_names.specs.Tables.{is_among}
use Rattle.qc_sled.specs.declared.syntax.Item.{Item}
use Rattle.qc_sled.specs.declared.syntax.Item.TheVariants.{Fields, Pattern, Constructor}
use Rattle.qc_sled.specs.declared.syntax.Pattern as tree
use Rattle.qc_sled.specs.declared.syntax.Pattern.{fold-Pattern, fold-roll-Pattern}
use Rattle.qc_sled.specs.declared.syntax.Pattern.TheOpen.{Pattern-F, Name, Equal, Group, Conjunction, Sequence, Alternatives}
use Rattle.qc_sled.specs.declared.syntax.RawCoding.{RawCoding}
use Rattle.qc_sled.specs.declared.syntax.Value.{Value}
use Rattle.qc_sled.specs.declared.syntax.Value.TheVariants as value_of
use Rattle.qc_join.specs.declared.faults.NameFault.{NameFault}
use Rattle.qc_join.specs.declared.faults.NameFault.TheVariants.{Unknown, Twice}

-- the names that an item declares, by their kinds
abbrev pub token_names : Item → List Ident
token_names (Fields token name bits fields) = name ∷ []
token_names _ = []

abbrev pub field_names : Item → List Ident
field_names (Fields token name bits fields) = map (λ f. f.name) fields
field_names _ = []

abbrev pub pattern_names : Item → List Ident
pattern_names (Pattern token name body) = name ∷ []
pattern_names _ = []

abbrev pub constructor_names : Item → List Ident
constructor_names (Constructor token name params body) = name ∷ []
constructor_names _ = []

-- the fault of a use of a name, unless that is known
abbrev pub unknown_unless : Bool → ℕ → List NameFault
unknown_unless = faults.unknown_unless Unknown

-- the second declarations among names of one kind, behind those that were seen
abbrev pub second_names : List (List ℕ) → List Ident → List NameFault
second_names = seen.second_names Twice

-- the names that a pattern may use: all fields, the patterns before it, and the operands of its constructor
pub record Names : Type 0 where
  pub fields : List (List ℕ)
  pub patterns : List (List ℕ)
  pub operands : List (List ℕ)

abbrev pub value_faults : Names → Value → List NameFault
value_faults names (value_of.Number value) = []
value_faults names (value_of.Operand name) = unknown_unless (is_among names.operands name.text) name.token
value_faults names (value_of.Bits name high low) = unknown_unless (is_among names.operands name.text) name.token

abbrev pub faults_layer : Pattern-F (Names → List NameFault) → Names → List NameFault
faults_layer (Name name) names = unknown_unless (is_among names.patterns name.text) name.token
faults_layer (Equal field value) names =
    unknown_unless (is_among names.fields field.text) field.token ++ value_faults names value
faults_layer (Group token inner) names = inner names
faults_layer (Conjunction parts) names = flat_map (λ faults. faults names) parts
faults_layer (Sequence parts) names = flat_map (λ faults. faults names) parts
faults_layer (Alternatives parts) names = flat_map (λ faults. faults names) parts

-- the faults of a pattern that may use these names
unfoldable pub pattern_faults : tree.Pattern → Names → List NameFault
pattern_faults = fold-Pattern (Names → List NameFault) faults_layer

-- the faults of an item's own names: of a constructor its name, which is to be an operation's, and its parameters
abbrev pub item_faults : List (List ℕ) → List (List ℕ) → List (List ℕ) → Item → List NameFault
item_faults operations fields patterns (Fields token name bits parts) = []
item_faults operations fields patterns (Pattern token name body) =
    pattern_faults body (record { fields = fields; patterns = patterns; operands = [] })
item_faults operations fields patterns (Constructor token name params body) =
    unknown_unless (is_among operations name.text) name.token
    ++ (second_names [] (map (λ p. p.name) params)
    ++ pattern_faults body
    (record { fields = fields; patterns = patterns; operands = map (λ p. p.name.text) params }))

-- the faults of the own names of items, behind these patterns
abbrev pub items_faults : List (List ℕ) → List (List ℕ) → List (List ℕ) → List Item → List NameFault
items_faults operations fields patterns [] = []
items_faults operations fields patterns (i ∷ items) =
    item_faults operations fields patterns i
    ++ items_faults operations fields (patterns ++ texts_of (pattern_names i)) items

-- the second declarations of tokens, fields, patterns and constructors
abbrev pub repeats : List Item → List NameFault
repeats items =
    second_names [] (flat_map token_names items) ++ (second_names [] (flat_map field_names items)
    ++ (second_names [] (flat_map pattern_names items) ++ second_names [] (flat_map constructor_names items)))

-- the faults of a whole text, for a machine of this name with operations of these names
abbrev pub name_faults : List ℕ → List (List ℕ) → RawCoding → List NameFault
name_faults machine operations raw =
    unknown_unless (bytes_eq raw.name.text machine) raw.name.token
    ++ (repeats raw.items ++ items_faults operations (texts_of (flat_map field_names raw.items)) [] raw.items)
