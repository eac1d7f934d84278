-- What is printed for a tree, and that each text of the tree spells it.
use Rattle.std.specs.Prelude.{ℕ, List, [], ◌∷◌, ◌++◌, Option, None, Some, codes, ◌≡◌}
use Rattle.std.specs.List.{flat_map}
use Rattle.std.proofs.Common.{refl, ap, sym, ◌∙◌}
use Rattle.qc_grammar.specs.declared.cursor.Ident.{Ident}
use Rattle.qc_grammar.specs.Lexeme.{Lexeme, ident_of}
use Rattle.qc_grammar.specs.Grammar.{Grammar}
use Rattle.qc_grammar.specs.Language.{IsPhrase}
use Rattle.qc_grammar.specs.Spelled.{spellings}
use Rattle.qc_grammar.specs.Law.SeparatedWords.{joined_words}
use Rattle.qc_grammar.specs.Law.Spelling as spell
use Rattle.qc_text.specs.PrintedWords.{Words, joined}
use Rattle.qc_grammar.specs.Printing.{as_text, digits, next_words, separated_words}
use Rattle.qc_sled.specs.declared.syntax.Field.{Field}
use Rattle.qc_sled.specs.declared.syntax.Reach.{Reach}
use Rattle.qc_sled.specs.declared.syntax.Reach.TheVariants.{Relative, Absolute}
use Rattle.qc_sled.specs.declared.syntax.Param.{Param}
use Rattle.qc_sled.specs.declared.syntax.Value.{Value}
use Rattle.qc_sled.specs.declared.syntax.Value.TheVariants as value_of
use Rattle.qc_sled.specs.declared.syntax.Pattern.{Pattern, fold-Pattern, fold-roll-Pattern}
use Rattle.qc_sled.specs.declared.syntax.Pattern.TheVariants as part
use Rattle.qc_sled.specs.declared.syntax.Pattern.TheOpen.{Pattern-F, Name, Equal, Group, Conjunction, Sequence, Alternatives}
use Rattle.qc_sled.specs.declared.syntax.Item.{Item}
use Rattle.qc_sled.specs.declared.syntax.Item.TheVariants as declaration
use Rattle.qc_sled.specs.declared.syntax.RawCoding.{RawCoding}
use Rattle.qc_sled.specs.Sled as grammar
use Rattle.qc_sled.specs.Sled.{Rule, TreeOf, any_pattern, sled, coding}

-- the words of a value
unfoldable pub value_words : Value → Words
value_words (value_of.Number value) = digits value ∷ []
value_words (value_of.Operand name) = name.text ∷ []
value_words (value_of.Bits name high low) =
    name.text ∷ codes "{" ∷ digits high ∷ codes ".." ∷ digits low ∷ codes "}" ∷ []

abbrev pub pattern_layer : Pattern-F Words → Words
pattern_layer (Name name) = name.text ∷ []
pattern_layer (Equal field value) = field.text ∷ codes "=" ∷ value_words value
pattern_layer (Group token inner) = codes "(" ∷ (inner ++ codes ")" ∷ [])
pattern_layer (Conjunction parts) = joined (codes "&") parts
pattern_layer (Sequence parts) = joined (codes ";") parts
pattern_layer (Alternatives parts) = joined (codes "|") parts

-- the words of a pattern
unfoldable pub pattern_words : Pattern → Words
pattern_words = fold-Pattern Words pattern_layer

pub pattern_words-name : (name : Ident) → pattern_words (part.Name name) ≡ name.text ∷ []
unfolding pattern_words
pattern_words-name name =
    ap pattern_words (sym (part.rolls-Name name)) ∙ fold-roll-Pattern Words pattern_layer (Name name)

pub pattern_words-equal : (field : Ident) (value : Value)
    → pattern_words (part.Equal field value) ≡ field.text ∷ codes "=" ∷ value_words value
unfolding pattern_words
pattern_words-equal field value =
    ap pattern_words (sym (part.rolls-Equal field value)) ∙ fold-roll-Pattern Words pattern_layer (Equal field value)

pub pattern_words-group : (token : ℕ) (inner : Pattern)
    → pattern_words (part.Group token inner) ≡ codes "(" ∷ (pattern_words inner ++ codes ")" ∷ [])
unfolding pattern_words
pattern_words-group token inner =
    ap pattern_words (sym (part.rolls-Group token inner)) ∙ fold-roll-Pattern Words pattern_layer (Group token inner)

pub pattern_words-conjunction : (parts : List Pattern)
    → pattern_words (part.Conjunction parts) ≡ separated_words (codes "&") pattern_words parts
unfolding pattern_words
pattern_words-conjunction parts =
    ap pattern_words (sym (part.rolls-Conjunction parts)) ∙ fold-roll-Pattern Words pattern_layer (Conjunction parts)
    ∙ joined_words (codes "&") pattern_words parts

pub pattern_words-sequence : (parts : List Pattern)
    → pattern_words (part.Sequence parts) ≡ separated_words (codes ";") pattern_words parts
unfolding pattern_words
pattern_words-sequence parts =
    ap pattern_words (sym (part.rolls-Sequence parts)) ∙ fold-roll-Pattern Words pattern_layer (Sequence parts)
    ∙ joined_words (codes ";") pattern_words parts

pub pattern_words-alternatives : (parts : List Pattern)
    → pattern_words (part.Alternatives parts) ≡ separated_words (codes "|") pattern_words parts
unfolding pattern_words
pattern_words-alternatives parts =
    ap pattern_words (sym (part.rolls-Alternatives parts)) ∙ fold-roll-Pattern Words pattern_layer (Alternatives parts)
    ∙ joined_words (codes "|") pattern_words parts

unfoldable pub field_words : Field → Words
field_words f = f.name.text ∷ digits f.high ∷ codes ":" ∷ digits f.low ∷ []

abbrev pub fields_words : List Field → Words
fields_words fields = codes "(" ∷ (separated_words (codes ",") field_words fields ++ codes ")" ∷ [])

abbrev pub reach_words : Option Reach → Words
reach_words None = []
reach_words (Some (Relative token bits)) = codes ":" ∷ codes "rel" ∷ digits bits ∷ []
reach_words (Some (Absolute token bits)) = codes ":" ∷ codes "abs" ∷ digits bits ∷ []

unfoldable pub param_words : Param → Words
param_words p = p.name.text ∷ reach_words p.reach

abbrev pub params_words : List Param → Words
params_words params = codes "(" ∷ (separated_words (codes ",") param_words params ++ codes ")" ∷ [])

-- the words of an item, with those of a body after those of its head
unfoldable pub item_words : Item → Words
item_words (declaration.Fields token name bits fields) = codes "fields" ∷ name.text ∷ digits bits ∷ fields_words fields
item_words (declaration.Pattern token name body) = codes "pattern" ∷ name.text ∷ codes "is" ∷ pattern_words body
item_words (declaration.Constructor token name params body) =
    codes "constructor" ∷ name.text ∷ ((params_words params ++ codes "is" ∷ []) ++ pattern_words body)

-- the words of a coding
abbrev pub coding_words : RawCoding → Words
coding_words raw = codes "coding" ∷ raw.name.text ∷ flat_map item_words raw.items

abbrev pub rule_words : (r : Rule) → TreeOf r → Words
rule_words any_pattern = pattern_words

-- each rule spells its tree's words
abbrev Spells : {A : Type 0} → Grammar Rule TreeOf A → (A → Words) → Type 0
Spells g words_of = spell.EachSpells as_text rule_words g (λ words x. words ≡ words_of x)

value_spells : Spells grammar.value value_words
unfolding grammar.value grammar.bits value_words
value_spells = ((λ k. refl), (λ n. ((λ t h u l v. refl), refl)))

atom_spells : Spells grammar.atom pattern_words
unfolding grammar.atom grammar.after_atom
atom_spells = (
  (λ n. (
    (λ t. spell.spelled as_text rule_words grammar.value value_words value_spells _
        (λ v. sym (pattern_words-equal (ident_of n) v))),
    sym (pattern_words-name (ident_of n)),
  )),
  (λ t x u. sym (pattern_words-group t.number x)),
)

conjunction_spells : Spells grammar.conjunction pattern_words
unfolding grammar.conjunction grammar.atoms next_words
conjunction_spells =
    spell.spelled as_text rule_words grammar.atom pattern_words atom_spells _ (λ x. (
      next_words (codes "&") pattern_words,
      (λ t. spell.spelled as_text rule_words grammar.atom pattern_words atom_spells _ (λ y. refl)),
      λ xs. sym (pattern_words-conjunction (x ∷ xs)),
    ))

sequence_spells : Spells grammar.sequence pattern_words
unfolding grammar.sequence grammar.conjunctions next_words
sequence_spells =
    spell.spelled as_text rule_words grammar.conjunction pattern_words conjunction_spells _ (λ x. (
      next_words (codes ";") pattern_words,
      (λ t. spell.spelled as_text rule_words grammar.conjunction pattern_words conjunction_spells _ (λ y. refl)),
      λ xs. sym (pattern_words-sequence (x ∷ xs)),
    ))

pattern_spells : Spells grammar.pattern pattern_words
unfolding grammar.pattern grammar.sequences next_words
pattern_spells =
    spell.spelled as_text rule_words grammar.sequence pattern_words sequence_spells _ (λ x. (
      next_words (codes "|") pattern_words,
      (λ t. spell.spelled as_text rule_words grammar.sequence pattern_words sequence_spells _ (λ y. refl)),
      λ xs. sym (pattern_words-alternatives (x ∷ xs)),
    ))

field_spells : Spells grammar.field field_words
unfolding grammar.field field_words
field_spells = λ n h t l. refl

fields_spells : Spells grammar.fields fields_words
unfolding grammar.fields next_words
fields_spells = λ t. spell.spelled as_text rule_words grammar.field field_words field_spells _ (λ x. (
  next_words (codes ",") field_words,
  (λ u. spell.spelled as_text rule_words grammar.field field_words field_spells _ (λ y. refl)),
  λ xs u. refl,
))

param_spells : Spells grammar.param param_words
unfolding grammar.param grammar.reach_of grammar.reach param_words
param_spells = λ n. ((λ t. ((λ u k. refl), (λ u k. refl))), refl)

params_spells : Spells grammar.params params_words
unfolding grammar.params next_words
params_spells = λ t. (
  (λ u. refl),
  spell.spelled as_text rule_words grammar.param param_words param_spells _ (λ x. (
    next_words (codes ",") param_words,
    (λ u. spell.spelled as_text rule_words grammar.param param_words param_spells _ (λ y. refl)),
    λ xs u. refl,
  )),
)

item_spells : Spells grammar.item item_words
unfolding grammar.item item_words
item_spells = (
  (λ t n k. spell.spelled as_text rule_words grammar.fields fields_words fields_spells _ (λ fs. refl)),
  (
    (λ t n u x. refl),
    (λ t n. spell.spelled as_text rule_words grammar.params params_words params_spells _ (λ ps u x. refl)),
  ),
)

coding_spells : Spells coding coding_words
unfolding coding grammar.items
coding_spells = λ t n. (item_words, item_spells, λ xs. refl)

-- each text of a coding spells its words
pub coding_texts : (tokens : List Lexeme) (raw : RawCoding)
    → IsPhrase sled coding tokens raw → spellings as_text tokens ≡ coding_words raw
coding_texts tokens raw phrase =
    spell.texts_spell as_text sled rule_words (elim [ any_pattern ↦ pattern_spells ])
    coding coding_words coding_spells tokens raw phrase
