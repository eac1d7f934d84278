-- Expressions in which no function is handed on, among all expressions.
use Rattle.std.specs.Prelude.{ℕ, ◌≡◌, List, [], Option, map}
use Rattle.std.proofs.Common.{ap, sym, ◌∙◌}
use Rattle.qc_words.specs.declared.operator.Op.{Op}
use Rattle.qc_bodies.specs.declared.tree.Leaf as sort_of_leaf
use Rattle.qc_bodies.specs.declared.tree.Wrap as sort_of_wrap
use Rattle.qc_bodies.specs.declared.plain.Plain.{Plain, fold-Plain, fold-roll-Plain}
use Rattle.qc_bodies.specs.declared.plain.Plain.TheVariants as code
use Rattle.qc_bodies.specs.declared.plain.Plain.TheOpen as open_plain
use Rattle.qc_bodies.specs.Trees.{Core, one, many, Leaf, Absent, Param, Wrap, Operate, Use, several}

-- one layer of an expression over its parts
abbrev pub plain_layer : open_plain.Plain-F (Core one) → Core one
plain_layer (open_plain.Leaf token leaf width) = Leaf token leaf width
plain_layer (open_plain.Absent token) = Absent token
plain_layer (open_plain.Param number) = Param number
plain_layer (open_plain.Wrap token wrap width part) = Wrap token wrap width part
plain_layer (open_plain.Operate token op args) = Operate token op (several args)
plain_layer (open_plain.Use token number args) = Use token number [] (several args)

unfoldable pub plain_of : Plain → Core one
plain_of = fold-Plain (Core one) plain_layer

abbrev pub plains_of : List Plain → Core many
plains_of plains = several (map plain_of plains)

-- the expression of each variant
pub plain-leaf : (token : ℕ) (leaf : sort_of_leaf.Leaf) (width : Option ℕ) → plain_of (code.Leaf token leaf width) ≡ Leaf token leaf width
unfolding plain_of
plain-leaf token leaf width =
    ap plain_of (sym (code.rolls-Leaf token leaf width)) ∙ fold-roll-Plain (Core one) plain_layer (open_plain.Leaf token leaf width)

pub plain-absent : (token : ℕ) → plain_of (code.Absent token) ≡ Absent token
unfolding plain_of
plain-absent token =
    ap plain_of (sym (code.rolls-Absent token)) ∙ fold-roll-Plain (Core one) plain_layer (open_plain.Absent token)

pub plain-param : (number : ℕ) → plain_of (code.Param number) ≡ Param number
unfolding plain_of
plain-param number =
    ap plain_of (sym (code.rolls-Param number)) ∙ fold-roll-Plain (Core one) plain_layer (open_plain.Param number)

pub plain-wrap : (token : ℕ) (wrap : sort_of_wrap.Wrap) (width : Option ℕ) (part : Plain) → plain_of (code.Wrap token wrap width part) ≡ Wrap token wrap width (plain_of part)
unfolding plain_of
plain-wrap token wrap width part =
    ap plain_of (sym (code.rolls-Wrap token wrap width part)) ∙ fold-roll-Plain (Core one) plain_layer (open_plain.Wrap token wrap width part)

pub plain-operate : (token : ℕ) (op : Op) (args : List Plain) → plain_of (code.Operate token op args) ≡ Operate token op (plains_of args)
unfolding plain_of
plain-operate token op args =
    ap plain_of (sym (code.rolls-Operate token op args)) ∙ fold-roll-Plain (Core one) plain_layer (open_plain.Operate token op args)

pub plain-use : (token number : ℕ) (args : List Plain) → plain_of (code.Use token number args) ≡ Use token number [] (plains_of args)
unfolding plain_of
plain-use token number args =
    ap plain_of (sym (code.rolls-Use token number args)) ∙ fold-roll-Plain (Core one) plain_layer (open_plain.Use token number args)
