-- What reading a list gives, by what reading an item gives.
use Rattle.std.specs.Prelude.{ℕ, zero, suc, ◌≡◌, ◌<◌, List, [], ◌∷◌, length, Ok, Err}
use Rattle.qc_grammar.specs.declared.lists.ItemOrLast.{ItemOrLast}
use Rattle.qc_grammar.specs.declared.lists.ItemOrLast.TheVariants.{Item, Last}
use Rattle.qc_grammar.specs.Lexeme.{Class, Word, Lexeme}
use Rattle.qc_grammar.specs.Reading.{Read, then_read, read_as, read_both, read_word, repeated}

-- An item has a token.
abbrev pub Shortens : {A : Type 0} → (List Lexeme → Read A) → Type 0
Shortens {A} read = (tokens : List Lexeme) (x : A × List Lexeme) → read tokens ≡ Ok x → length x.1 < length tokens

-- as many as come, while the next token is of one of the classes
abbrev pub many : {A : Type 0} → (List Lexeme → Read A) → List Class → List Lexeme → Read (List A)
many read classes tokens = repeated read classes (length tokens) tokens

-- a separator, and one item
abbrev pub next_reading : {A : Type 0} → (List Lexeme → Read A) → List ℕ → List Lexeme → Read A
next_reading read separator tokens = read_as (λ p. p.1) (read_both (read_word separator) read) tokens

-- one item or several, with a separator between them
abbrev pub separated_reading : {A : Type 0} → (List Lexeme → Read A) → List ℕ → List Lexeme → Read (List A)
separated_reading read separator tokens =
    read_as (λ p. p.0 ∷ p.1) (read_both read (many (next_reading read separator) (Word separator ∷ []))) tokens

-- an item comes before those that are read after it; nothing is read after the last phrase
abbrev pub read_after : {A B : Type 0} → (List Lexeme → Read (List A × B)) → ItemOrLast A B → List Lexeme
    → Read (List A × B)
read_after more (Item x) tokens = read_as (λ p. (x ∷ p.0, p.1)) more tokens
read_after more (Last y) tokens = Ok (([], y), tokens)

-- items, as long as one is read, and then the phrase that ends them
abbrev pub until_last : {A B : Type 0} → (List Lexeme → Read (ItemOrLast A B)) → ℕ → List Lexeme → Read (List A × B)
until_last read zero tokens = Err (length tokens)
until_last read (suc fuel) tokens = then_read (read tokens) (read_after (until_last read fuel))

-- Each item has a token, so that the tokens bound their number.
abbrev pub items_then_last_reading : {A B : Type 0} → (List Lexeme → Read (ItemOrLast A B)) → List Lexeme
    → Read (List A × B)
items_then_last_reading read tokens = until_last read (suc (length tokens)) tokens
