-- Expressions as trees that are no lists of themselves, without where they lie in memory.
use Rattle.std.specs.Prelude.{ℕ, ◌≡◌, List, [], ◌∷◌, Option, map}
use Rattle.std.proofs.Common.{ap, sym, ◌∙◌}
use Rattle.qc_words.specs.declared.operator.Op.{Op}
use Rattle.qc_bodies.specs.declared.tree.Callee.{Callee}
use Rattle.qc_bodies.specs.declared.tree.Leaf as sort_of_leaf
use Rattle.qc_bodies.specs.declared.tree.Wrap as sort_of_wrap
use Rattle.qc_bodies.specs.declared.tree.Tree.{Tree, fold-Tree, fold-roll-Tree}
use Rattle.qc_bodies.specs.declared.tree.Tree.TheVariants as tree
use Rattle.qc_bodies.specs.declared.tree.Tree.TheOpen as open_tree

-- one expression, or several
pub data Sort : Type 0 where
  one : Sort
  many : Sort

pub data Core : Sort → Type 0 where
  Leaf : (token : ℕ) → (leaf : sort_of_leaf.Leaf) → (width : Option ℕ) → Core one
  Absent : (token : ℕ) → Core one
  Param : (number : ℕ) → Core one
  Wrap : (token : ℕ) → (wrap : sort_of_wrap.Wrap) → (width : Option ℕ) → (part : Core one) → Core one
  Operate : (token : ℕ) → (op : Op) → (args : Core many) → Core one
  Use : (token : ℕ) → (number : ℕ) → (callees : List Callee) → (args : Core many) → Core one
  Apply : (token : ℕ) → (number : ℕ) → (args : Core many) → Core one
  none : Core many
  more : (first : Core one) → (rest : Core many) → Core many

-- several expressions
abbrev pub several : List (Core one) → Core many
several [] = none
several (e ∷ es) = more e (several es)

-- one layer of an expression over its parts
abbrev pub core_layer : open_tree.Tree-F (Core one) → Core one
core_layer (open_tree.Leaf token leaf width) = Leaf token leaf width
core_layer (open_tree.Absent token) = Absent token
core_layer (open_tree.Param number) = Param number
core_layer (open_tree.Wrap token wrap width part) = Wrap token wrap width part
core_layer (open_tree.Operate token op args) = Operate token op (several args)
core_layer (open_tree.Use token number callees args) = Use token number callees (several args)
core_layer (open_tree.Apply token number args) = Apply token number (several args)

-- the expression that a tree of the code is
unfoldable pub core_of : Tree → Core one
core_of = fold-Tree (Core one) core_layer

abbrev pub cores_of : List Tree → Core many
cores_of trees = several (map core_of trees)

-- the expression of each variant
pub core-leaf : (token : ℕ) (leaf : sort_of_leaf.Leaf) (width : Option ℕ) → core_of (tree.Leaf token leaf width) ≡ Leaf token leaf width
unfolding core_of
core-leaf token leaf width =
    ap core_of (sym (tree.rolls-Leaf token leaf width)) ∙ fold-roll-Tree (Core one) core_layer (open_tree.Leaf token leaf width)

pub core-absent : (token : ℕ) → core_of (tree.Absent token) ≡ Absent token
unfolding core_of
core-absent token =
    ap core_of (sym (tree.rolls-Absent token)) ∙ fold-roll-Tree (Core one) core_layer (open_tree.Absent token)

pub core-param : (number : ℕ) → core_of (tree.Param number) ≡ Param number
unfolding core_of
core-param number =
    ap core_of (sym (tree.rolls-Param number)) ∙ fold-roll-Tree (Core one) core_layer (open_tree.Param number)

pub core-wrap : (token : ℕ) (wrap : sort_of_wrap.Wrap) (width : Option ℕ) (part : Tree) → core_of (tree.Wrap token wrap width part) ≡ Wrap token wrap width (core_of part)
unfolding core_of
core-wrap token wrap width part =
    ap core_of (sym (tree.rolls-Wrap token wrap width part)) ∙ fold-roll-Tree (Core one) core_layer (open_tree.Wrap token wrap width part)

pub core-operate : (token : ℕ) (op : Op) (args : List Tree) → core_of (tree.Operate token op args) ≡ Operate token op (cores_of args)
unfolding core_of
core-operate token op args =
    ap core_of (sym (tree.rolls-Operate token op args)) ∙ fold-roll-Tree (Core one) core_layer (open_tree.Operate token op args)

pub core-use : (token number : ℕ) (callees : List Callee) (args : List Tree) → core_of (tree.Use token number callees args) ≡ Use token number callees (cores_of args)
unfolding core_of
core-use token number callees args =
    ap core_of (sym (tree.rolls-Use token number callees args)) ∙ fold-roll-Tree (Core one) core_layer (open_tree.Use token number callees args)

pub core-apply : (token number : ℕ) (args : List Tree) → core_of (tree.Apply token number args) ≡ Apply token number (cores_of args)
unfolding core_of
core-apply token number args =
    ap core_of (sym (tree.rolls-Apply token number args)) ∙ fold-roll-Tree (Core one) core_layer (open_tree.Apply token number args)
