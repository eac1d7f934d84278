-- The words of C-- programs: punctuation, the reserved names, and two Prims.
use Rattle.std.specs.Prelude.{ℕ, Bool, false, ◌||◌, List, [], ◌∷◌, codes}
use Rattle.std.specs.List.{list_any}
use Rattle.std.specs.Str.{bytes_eq}
use Rattle.qc_text.specs.declared.token.Kind.{Kind}
use Rattle.qc_text.specs.declared.token.Kind.TheVariants as kind
use Rattle.qc_grammar.specs.Lexeme.{Vocabulary, reserving}

-- the reserved words
abbrev pub reserved : List (List ℕ)
reserved =
    codes "target" ∷ codes "byteorder" ∷ codes "little" ∷ codes "big" ∷ codes "wordsize" ∷ codes "section"
    ∷ codes "bits8" ∷ codes "bits16" ∷ codes "bits32" ∷ codes "bits64" ∷ codes "goto" ∷ codes "return" ∷ codes "if"
    ∷ codes "else" ∷ []

-- the Prims of the grammar: one stands for the next word of the input, one begins a statement
abbrev pub reserved_prims : List (List ℕ)
reserved_prims = codes "%in" ∷ codes "%out" ∷ []

abbrev pub is_reserved_prim : Kind → List ℕ → Bool
is_reserved_prim kind.Prim text = list_any (λ word. bytes_eq word text) reserved_prims
is_reserved_prim kind.Name text = false
is_reserved_prim kind.Number text = false
is_reserved_prim kind.Str text = false
is_reserved_prim kind.Punct text = false
is_reserved_prim kind.End text = false

-- They, the reserved words and punctuation are the words of the grammar.
abbrev pub vocabulary : Vocabulary
vocabulary before kind text = is_reserved_prim kind text || reserving reserved before kind text
