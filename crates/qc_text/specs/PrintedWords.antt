-- What is printed: words with a blank after each, which are tokens of a file.
use Rattle.std.specs.Prelude.{ℕ, ◌≢◌, List, [], ◌∷◌, ◌++◌, map}
use Rattle.std.specs.List.{flat_map}
use Rattle.qc_text.specs.declared.token.Kind.{Kind}
use Rattle.qc_text.specs.declared.token.Token.{Token}
use Rattle.qc_text.specs.Tokens.{IsTokenText, token_text}

abbrev pub Words : Type 0
Words = List (List ℕ)

-- each word, and a blank after it
abbrev pub spaced : Words → List ℕ
spaced words = flat_map (λ word. word ++ 32 ∷ []) words

-- words of several things, with a separator between them
abbrev pub joined : List ℕ → List Words → Words
joined separator [] = []
joined separator (x ∷ xs) = x ++ flat_map (λ y. separator ∷ y) xs

-- each is a kind and a text of it, which isn't empty
abbrev pub AreWords : List (Kind × List ℕ) → Type 0
AreWords [] = Unit {0}
AreWords (word ∷ words) = IsTokenText word.0 word.1 × (word.1 ≢ []) × AreWords words

abbrev pub texts_of : List (Kind × List ℕ) → List (List ℕ)
texts_of words = map (λ word. word.1) words

-- the kinds and the texts of a file's tokens
abbrev pub words_in : List ℕ → List Token → List (Kind × List ℕ)
words_in bytes tokens = map (λ token. (token.kind, token_text bytes token)) tokens
