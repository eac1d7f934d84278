-- The trees of terms, for terms that are written out.
use Rattle.std.proofs.Common.{◌≡◌, Bool, true, false, not, ◌||◌, IsTrue, refl}
use Rattle.qc_terms.specs.Tree.{tree_of-after, tree_of-bin, tree_of-imm, tree_of-num, tree_of-reg, tree_of-un}

pub ruleset trees = (tree_of-num, tree_of-reg, tree_of-bin, tree_of-un, tree_of-imm, tree_of-after)

-- what is marked is marked, and what two tests say of one
pub either : (b : Bool) → (not b || b) ≡ true
either true = refl
either false = refl

pub or_false : (b : Bool) → (b || false) ≡ b
or_false true = refl
or_false false = refl

-- a test that fails doesn't hold
pub fails : {b : Bool} → b ≡ false → IsTrue b → ⊥
fails e holds = cc (e, holds)
