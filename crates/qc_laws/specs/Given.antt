-- What a law gives in a pool.
use Rattle.std.specs.Prelude.{ℕ, ◌≡◌, ◌<◌, List, length, Option, IfSome}
use Rattle.std.specs.Option.{option_map}
use Rattle.qc_terms.specs.Tree.{Tree}
use Rattle.qc_pool.specs.Nodes.{term_at}

-- the id is that of the term, or both are none
pub record IsGiven (terms : List Tree) (id : Option ℕ) (t : Option Tree) : Type 0 where
  pub there : IfSome id (λ i. i < length terms)
  pub term : option_map (term_at terms) id ≡ t
