-- The words of several things with a separator between two, as a fold over a tree puts them together.
use Rattle.std.specs.Prelude.{ℕ, ◌≡◌, List, [], ◌∷◌, ◌++◌, map}
use Rattle.std.proofs.Common.{refl, ap}
use Rattle.qc_text.specs.PrintedWords.{Words, joined}
use Rattle.qc_text.specs.Law.PrintedWords.{after_separators}
use Rattle.qc_grammar.specs.Printing.{next_words, separated_words}

pub joined_words : {X : Type 0} (separator : List ℕ) (words : X → Words) (xs : List X)
    → joined separator (map words xs) ≡ separated_words separator words xs
unfolding next_words
joined_words separator words [] = refl
joined_words separator words (x ∷ xs) =
    ap (λ ws. words x ++ ws) (after_separators separator words (next_words separator words) (λ y. refl) xs)
