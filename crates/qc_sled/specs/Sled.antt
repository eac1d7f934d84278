-- The grammar of coding texts, rule by rule. Words in quotes are reserved, and no names.
use Rattle.std.specs.Prelude.{ℕ, List, [], ◌∷◌, Option, codes, ◌≡◌, refl}
use Rattle.qc_grammar.specs.declared.cursor.Ident.{Ident}
use Rattle.qc_grammar.specs.Lexeme.{Class, Word, Lexeme, Vocabulary, reserving}
use Rattle.qc_grammar.specs.Grammar.{Grammar, nonterminal, empty, repetition, ◌<+>◌, ◌*>◌, ◌<*◌, ◌<|>◌, ◌<$>◌, word, name, number, optional, Syntax, separated}
use Rattle.qc_grammar.specs.Reading.{reads}
use Rattle.qc_grammar.specs.Law.LL1.{IsReadable}
use Rattle.qc_grammar.specs.Lists.{Shortens}
use Rattle.qc_grammar.specs.Law.Lists.{shortens_of}
use Rattle.qc_grammar.specs.Law.Fuel.{unroll}
use Rattle.qc_sled.specs.declared.syntax.Field.{Field}
use Rattle.qc_sled.specs.declared.syntax.Reach.{Reach}
use Rattle.qc_sled.specs.declared.syntax.Reach.TheVariants.{Relative, Absolute}
use Rattle.qc_sled.specs.declared.syntax.Param.{Param}
use Rattle.qc_sled.specs.declared.syntax.Value.{Value}
use Rattle.qc_sled.specs.declared.syntax.Value.TheVariants as value_of
use Rattle.qc_sled.specs.declared.syntax.Pattern.{Pattern}
use Rattle.qc_sled.specs.declared.syntax.Pattern.TheVariants as part
use Rattle.qc_sled.specs.declared.syntax.Item.{Item}
use Rattle.qc_sled.specs.declared.syntax.Item.TheVariants as declaration
use Rattle.qc_sled.specs.declared.syntax.RawCoding.{RawCoding}

-- the reserved words
abbrev pub reserved : List (List ℕ)
reserved =
    codes "coding" ∷ codes "fields" ∷ codes "pattern" ∷ codes "is" ∷ codes "constructor" ∷ codes "rel"
    ∷ codes "abs" ∷ []

-- They and punctuation are the words of the grammar.
abbrev pub vocabulary : Vocabulary
vocabulary = reserving reserved

-- the one rule that may come inside itself
pub data Rule : Type 0 where
  any_pattern : Rule

abbrev pub TreeOf : Rule → Type 0
TreeOf any_pattern = Pattern

-- field = name number ":" number
unfoldable pub field : Grammar Rule TreeOf Field
field = (λ p. record { name = p.0; high = p.1.0; low = p.1.1 }) <$> name <+> number <* word (codes ":") <+> number

-- fields = "(" field { "," field } ")"
unfoldable pub fields : Grammar Rule TreeOf (List Field)
fields = word (codes "(") *> separated field (codes ",") <* word (codes ")")

-- reach = "rel" number | "abs" number
unfoldable pub reach : Grammar Rule TreeOf Reach
reach =
    (λ p. Relative p.0 p.1) <$> word (codes "rel") <+> number
    <|> (λ p. Absolute p.0 p.1) <$> word (codes "abs") <+> number

-- reach_of = [ ":" reach ]
unfoldable pub reach_of : Grammar Rule TreeOf (Option Reach)
reach_of = optional (word (codes ":") *> reach)

-- param = name reach_of
unfoldable pub param : Grammar Rule TreeOf Param
param = (λ p. record { name = p.0; reach = p.1 }) <$> name <+> reach_of

-- params = "(" [ param { "," param } ] ")"
unfoldable pub params : Grammar Rule TreeOf (List Param)
params = word (codes "(") *> ((λ _. []) <$> word (codes ")") <|> separated param (codes ",") <* word (codes ")"))

-- bits = [ "{" number ".." number "}" ], after an operand's name
unfoldable pub bits : Grammar Rule TreeOf (Ident → Value)
bits =
    (λ p n. value_of.Bits n p.0 p.1)
    <$> (word (codes "{") *> number) <+> (word (codes "..") *> number <* word (codes "}"))
    <|> empty (λ n. value_of.Operand n)

-- value = number | name bits
unfoldable pub value : Grammar Rule TreeOf Value
value = value_of.Number <$> number <|> (λ p. p.1 p.0) <$> name <+> bits

-- after_atom = [ "=" value ], after a name that begins an atom
unfoldable pub after_atom : Grammar Rule TreeOf (Ident → Pattern)
after_atom = (λ v n. part.Equal n v) <$> word (codes "=") *> value <|> empty (λ n. part.Name n)

-- atom = name after_atom | "(" pattern ")"
unfoldable pub atom : Grammar Rule TreeOf Pattern
atom =
    (λ p. p.1 p.0) <$> name <+> after_atom
    <|> (λ p. part.Group p.0 p.1) <$> word (codes "(") <+> nonterminal any_pattern <* word (codes ")")

-- atoms = atom { "&" atom }
unfoldable pub atoms : Grammar Rule TreeOf (List Pattern)
atoms = separated atom (codes "&")

-- conjunction = atoms
unfoldable pub conjunction : Grammar Rule TreeOf Pattern
conjunction = part.Conjunction <$> atoms

-- conjunctions = conjunction { ";" conjunction }
unfoldable pub conjunctions : Grammar Rule TreeOf (List Pattern)
conjunctions = separated conjunction (codes ";")

-- sequence = conjunctions
unfoldable pub sequence : Grammar Rule TreeOf Pattern
sequence = part.Sequence <$> conjunctions

-- sequences = sequence { "|" sequence }
unfoldable pub sequences : Grammar Rule TreeOf (List Pattern)
sequences = separated sequence (codes "|")

-- pattern = sequences
unfoldable pub pattern : Grammar Rule TreeOf Pattern
pattern = part.Alternatives <$> sequences

-- item = "fields" name number fields | "pattern" name "is" pattern | "constructor" name params "is" pattern
unfoldable pub item : Grammar Rule TreeOf Item
item =
    (λ p. declaration.Fields p.0 p.1.0 p.1.1.0 p.1.1.1) <$> word (codes "fields") <+> name <+> number <+> fields
    <|> (λ p. declaration.Pattern p.0 p.1.0 p.1.1)
    <$> word (codes "pattern") <+> name <* word (codes "is") <+> nonterminal any_pattern
    <|> (λ p. declaration.Constructor p.0 p.1.0 p.1.1.0 p.1.1.1)
    <$> word (codes "constructor") <+> name <+> params <* word (codes "is") <+> nonterminal any_pattern

-- items = { item }
unfoldable pub items : Grammar Rule TreeOf (List Item)
items = repetition item

-- coding = "coding" name items
unfoldable pub coding : Grammar Rule TreeOf RawCoding
coding = (λ p. record { name = p.0; items = p.1 }) <$> (word (codes "coding") *> name) <+> items

abbrev pub rule : (r : Rule) → Grammar Rule TreeOf (TreeOf r)
rule any_pattern = pattern

-- a pattern may go on in its last part: a name by what it is equal to, an operand by its bits, and each list of parts
abbrev pub goes_on : Rule → List Class
goes_on any_pattern =
    Word (codes "=") ∷ Word (codes "{") ∷ Word (codes "&") ∷ Word (codes ";") ∷ Word (codes "|") ∷ []

abbrev pub sled : Syntax Rule TreeOf
sled = record { rule = rule; goes_on = goes_on }

pub sled_is_readable : IsReadable sled coding
unfolding field fields reach reach_of param params bits value
    after_atom atom atoms conjunction conjunctions sequence sequences pattern
    item items coding
sled_is_readable = record { rules = record { depth = 1; rules = elim [ any_pattern ↦ refl ] }; start = refl }

-- the rule is read as its grammar is
pub pattern_unrolls : (tokens : List Lexeme) → reads sled (nonterminal any_pattern) tokens ≡ reads sled pattern tokens
pattern_unrolls = unroll sled sled_is_readable.rules any_pattern

-- each phrase of a list has a token
pub field_shortens : Shortens (reads sled field)
unfolding field
field_shortens = shortens_of sled sled_is_readable.rules field refl refl

pub param_shortens : Shortens (reads sled param)
unfolding reach reach_of param
param_shortens = shortens_of sled sled_is_readable.rules param refl refl

pub atom_shortens : Shortens (reads sled atom)
unfolding bits value after_atom atom
atom_shortens = shortens_of sled sled_is_readable.rules atom refl refl

pub conjunction_shortens : Shortens (reads sled conjunction)
unfolding bits value after_atom atom atoms conjunction
conjunction_shortens = shortens_of sled sled_is_readable.rules conjunction refl refl

pub sequence_shortens : Shortens (reads sled sequence)
unfolding bits value after_atom atom atoms conjunction conjunctions sequence
sequence_shortens = shortens_of sled sled_is_readable.rules sequence refl refl

pub item_shortens : Shortens (reads sled item)
unfolding field fields reach reach_of param params item
item_shortens = shortens_of sled sled_is_readable.rules item refl refl
