-- The words of texts of tables: punctuation, the reserved names where they are no names of anything, and the version and the bounds at the front of a text.
use Rattle.std.specs.Prelude.{ℕ, ◌-◌, Bool, true, false, not, ◌&&◌, ◌||◌, List, [], ◌∷◌, length, drop, nat_eq, codes}
use Rattle.std.specs.List.{list_any}
use Rattle.std.specs.Str.{bytes_eq}
use Rattle.qc_text.specs.declared.token.Kind.{Kind}
use Rattle.qc_text.specs.declared.token.Kind.TheVariants as kind
use Rattle.qc_grammar.specs.Lexeme.{Vocabulary}

-- the reserved words
abbrev pub reserved : List (List ℕ)
reserved =
    codes "tables" ∷ codes "tile" ∷ codes "missing" ∷ codes "e" ∷ codes "own" ∷ codes "par" ∷ codes "cell"
    ∷ codes "const" ∷ codes "spare" ∷ codes "after" ∷ codes "input" ∷ codes "mem" ∷ codes "zx" ∷ codes "sx"
    ∷ codes "slice" ∷ []

-- the words after which a name comes
abbrev pub introducing : List (List ℕ)
introducing = codes "tables" ∷ codes "tile" ∷ codes "cell" ∷ []

abbrev pub introduces : Kind → List ℕ → Bool
introduces kind.Name text = list_any (λ word. bytes_eq word text) introducing
introduces kind.Prim text = false
introduces kind.Number text = false
introduces kind.Str text = false
introduces kind.Punct text = false
introduces kind.End text = false

-- A name comes next: the last token is such a word, and no name itself, as the second one of `tile tile` is. No text has
-- three such words in a row.
abbrev pub is_introduced : List (Kind × List ℕ) → Bool
is_introduced [] = false
is_introduced (last ∷ []) = introduces last.0 last.1
is_introduced (one ∷ last ∷ more) = introduces last.0 last.1 && not (introduces one.0 one.1)

abbrev pub last_two : {A : Type 0} → List A → List A
last_two tokens = drop (length tokens - 2) tokens

-- the words of the bounds, each with so many tokens before it
abbrev pub is_bound_word : ℕ → List ℕ → Bool
is_bound_word before text =
    (nat_eq before 3 && bytes_eq text (codes "height")) || (nat_eq before 5 && bytes_eq text (codes "laws"))

-- Number 2 of a text is its version, and the numbers 4 and 6 are its bounds, if it has any.
abbrev pub is_front_number : ℕ → Bool
is_front_number before = nat_eq before 2 || (nat_eq before 4 || nat_eq before 6)

abbrev pub vocabulary : Vocabulary
vocabulary before kind.Name text =
    (list_any (λ word. bytes_eq word text) reserved || is_bound_word (length before) text)
    && not (is_introduced (last_two before))
vocabulary before kind.Number text = is_front_number (length before)
vocabulary before kind.Punct text = true
vocabulary before kind.Prim text = false
vocabulary before kind.Str text = false
vocabulary before kind.End text = false
