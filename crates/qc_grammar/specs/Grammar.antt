-- Grammars as data. The index of a grammar is the type of the trees that its phrases yield.
use Rattle.std.specs.Prelude.{ℕ, List, [], ◌∷◌, Option, Some, None}
use Rattle.qc_text.specs.declared.token.Kind.{Kind}
use Rattle.qc_text.specs.declared.token.Kind.TheVariants as kind
use Rattle.qc_grammar.specs.declared.cursor.Ident.{Ident}
use Rattle.qc_grammar.specs.declared.cursor.Number.{Number}
use Rattle.qc_grammar.specs.declared.lists.ItemOrLast.{ItemOrLast}
use Rattle.qc_grammar.specs.declared.lists.ItemOrLast.TheVariants.{Item, Last}
use Rattle.qc_grammar.specs.Lexeme.{Class, Word, Value, Any, Lexeme, ident_of, number_in}
use Rattle.qc_grammar.specs.Lexeme.{number_in}

-- A grammar over the rules of I, where the tree of rule i is of type E i.
pub data Grammar (I : Type 0) (E : I → Type 0) : Type 0 → Type 1 where
  -- one token of this class
  terminal : Class → Grammar I E Lexeme
  -- no token
  empty : {A : Type 0} → A → Grammar I E A
  sequence : {A B : Type 0} → Grammar I E A → Grammar I E B → Grammar I E (A × B)
  choice : {A : Type 0} → Grammar I E A → Grammar I E A → Grammar I E A
  -- a function of the tree
  action : {A B : Type 0} → (A → B) → Grammar I E A → Grammar I E B
  -- any number of phrases, one after another
  repetition : {A : Type 0} → Grammar I E A → Grammar I E (List A)
  nonterminal : (i : I) → Grammar I E (E i)

module _ {I : Type 0} {E : I → Type 0} where
  infixr 40 ◌<|>◌
  infixr 50 ◌<$>◌
  infixr 60 ◌<+>◌
  infixr 60 ◌*>◌
  infixl 65 ◌<*◌
  -- both phrases, with both trees, or with that of the one that the sign points at
  abbrev pub ◌<+>◌ : {A B : Type 0} → Grammar I E A → Grammar I E B → Grammar I E (A × B)
  g <+> h = sequence g h

  abbrev pub ◌*>◌ : {A B : Type 0} → Grammar I E A → Grammar I E B → Grammar I E B
  g *> h = action (λ p. p.1) (sequence g h)

  abbrev pub ◌<*◌ : {A B : Type 0} → Grammar I E A → Grammar I E B → Grammar I E A
  g <* h = action (λ p. p.0) (sequence g h)

  abbrev pub ◌<|>◌ : {A : Type 0} → Grammar I E A → Grammar I E A → Grammar I E A
  g <|> h = choice g h

  abbrev pub ◌<$>◌ : {A B : Type 0} → (A → B) → Grammar I E A → Grammar I E B
  f <$> g = action f g

  -- a phrase that goes on from a head that was read before it
  abbrev pub onto : {A B : Type 0} → A → Grammar I E (A → B) → Grammar I E B
  onto x g = action (λ f. f x) g

  -- a word of the grammar, with the token's number
  abbrev pub word : List ℕ → Grammar I E ℕ
  word text = action (λ token. token.number) (terminal (Word text))

  -- a number of the grammar, with the token's number
  abbrev pub value : ℕ → Grammar I E ℕ
  value n = action (λ token. token.number) (terminal (Value n))

  -- any token of a kind, with its number and its text
  abbrev pub ident : Kind → Grammar I E Ident
  ident k = action ident_of (terminal (Any k))

  -- a number, with its value
  abbrev pub number : Grammar I E Number
  number = action number_in (terminal (Any kind.Number))

  -- the end of a text
  abbrev pub ending : Grammar I E ℕ
  ending = action (λ token. token.number) (terminal (Any kind.End))

  abbrev pub name : Grammar I E Ident
  name = ident kind.Name

  abbrev pub optional : {A : Type 0} → Grammar I E A → Grammar I E (Option A)
  optional g = (Some <$> g) <|> empty None

  -- one phrase or several, with a separator between them
  abbrev pub separated : {A : Type 0} → Grammar I E A → List ℕ → Grammar I E (List A)
  separated g separator = (λ p. p.0 ∷ p.1) <$> g <+> repetition (word separator *> g)

  -- a head, and a phrase whose tree is a function of the head's
  abbrev pub headed : {A B : Type 0} → Grammar I E A → Grammar I E (A → B) → Grammar I E B
  headed head tail = action (λ p. p.1 p.0) (sequence head tail)

  -- A list of items and the phrase that ends it may begin with the same head: what comes after the head tells which it
  -- is. Without a head it is the end.
  abbrev pub item_or_last : {H A B : Type 0} → Grammar I E H → Grammar I E (H → A) → Grammar I E (H → B)
      → Grammar I E B → Grammar I E (ItemOrLast A B)
  item_or_last head item last end =
      headed head ((λ f h. Item (f h)) <$> item <|> (λ f h. Last (f h)) <$> last)
      <|> Last <$> end

  -- Items, and the phrase that ends them. `again` is the rule whose grammar this is.
  abbrev pub items_then_last : {H A B : Type 0} → Grammar I E H → Grammar I E (H → A) → Grammar I E (H → B)
      → Grammar I E B → Grammar I E (List A × B) → Grammar I E (List A × B)
  items_then_last head item last end again =
      headed head ((λ p h. (p.0 h ∷ p.1.0, p.1.1)) <$> item <+> again <|> (λ f h. ([], f h)) <$> last)
      <|> (λ y. ([], y)) <$> end

  -- the same phrases, as they are thought of: items, and then what ends them
  abbrev pub items_and_last : {H A B : Type 0} → Grammar I E H → Grammar I E (H → A) → Grammar I E (H → B)
      → Grammar I E B → Grammar I E (List A × B)
  items_and_last head item last end =
      repetition (headed head item) <+> (headed head last <|> end)

  -- a whole text: a phrase, and the end
  abbrev pub text : {A : Type 0} → Grammar I E A → Grammar I E A
  text g = g <* ending

-- The rules of a grammar, and for each rule the classes that may go on after a whole phrase of it.
pub record Syntax (I : Type 0) (E : I → Type 0) : Type 1 where
  pub rule : (i : I) → Grammar I E (E i)
  pub goes_on : I → List Class
