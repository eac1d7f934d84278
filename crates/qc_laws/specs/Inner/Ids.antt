-- The parts of a term by their ids.
use Rattle.std.specs.Prelude.{ℕ, ◌≡◌, ◌<◌, ◌≤◌, List, length}
use Rattle.qc_words.specs.Width.{IsWidth}
use Rattle.qc_terms.specs.Tree.{Tree, width_of}
use Rattle.qc_pool.specs.Nodes.{term_at}
use Rattle.qc_equations.specs.Pattern.{Parts}
use Rattle.qc_laws.specs.declared.left.Ids.{Ids}

-- the parts
abbrev pub parts_at : List Tree → Ids → Parts
parts_at terms ids = record { a = term_at terms ids.a; b = term_at terms ids.b; c = term_at terms ids.c; size = ids.size }

-- The ids are those of terms, the word is the first one's width, and the size is no more than the widest word.
pub record AreThere (terms : List Tree) (ids : Ids) : Type 0 where
  pub a : ids.a < length terms
  pub b : ids.b < length terms
  pub c : ids.c < length terms
  pub word : ids.word ≡ width_of (term_at terms ids.a)
  pub width : IsWidth ids.word
  pub size : ids.size ≤ 64

-- two terms, by their ids
abbrev pub both_at : List Tree → ℕ × ℕ → Tree × Tree
both_at terms ids = (term_at terms ids.0, term_at terms ids.1)

-- both ids are those of terms
abbrev pub BothThere : List Tree → ℕ × ℕ → Type 0
BothThere terms ids = (ids.0 < length terms) × (ids.1 < length terms)
