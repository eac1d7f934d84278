-- The terms that a pool's entries stand for: each node stands over the terms before it.
use Rattle.std.specs.Prelude.{ℕ, ◌≡◌, List, [], ◌∷◌, ◌++◌, slice_get, Some, ◌⊎◌}
use Rattle.qc_terms.specs.Tree.{Tree, width_of}
use Rattle.qc_equations.specs.Matching.{is_constant}
use Rattle.qc_pool.specs.declared.node.Entry.{Entry}
use Rattle.qc_pool.specs.Nodes.{NodeFits, term_of}

-- the terms of the entries after these terms
abbrev pub terms_after : List Tree → List Entry → List Tree
terms_after terms [] = terms
terms_after terms (e ∷ es) = terms_after (terms ++ term_of terms e.node ∷ []) es

-- the terms of the entries
abbrev pub terms_of : List Entry → List Tree
terms_of es = terms_after [] es

-- what an entry says of its term is so
pub record Shows (e : Entry) (t : Tree) : Type 0 where
  pub width : e.width ≡ width_of t
  pub constant : e.constant ≡ is_constant t

-- each node fits the terms before it, and its entry says what is so
abbrev pub AreSound : List Tree → List Entry → Type 0
AreSound terms [] = Unit {0}
AreSound terms (e ∷ es) =
    NodeFits terms e.node × Shows e (term_of terms e.node) × AreSound (terms ++ term_of terms e.node ∷ []) es

-- no entry stands twice
abbrev pub AreApart : List Entry → Type 0
AreApart es = (i j : ℕ) (e : Entry) → slice_get es i ≡ Some e → slice_get es j ≡ Some e → i ≡ j

-- what holds of a pool's entries
pub record AreEntries (es : List Entry) : Type 0 where
  pub sound : AreSound [] es
  pub apart : AreApart es

-- The entry stands at the place. One that was there changes nothing, and any other stands last.
pub record IsPut (old new : List Entry) (e : Entry) (id : ℕ) : Type 0 where
  pub at : slice_get new id ≡ Some e
  pub change : (new ≡ old) ⊎ (((k : ℕ) → slice_get old k ≡ Some e → ⊥) × (new ≡ old ++ e ∷ []))
