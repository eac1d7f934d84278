-- Expressions in which each use has something of its own, among all expressions.
use Rattle.std.specs.Prelude.{ℕ, ◌≡◌, List, [], Option, None, Some, map, slice_get}
use Rattle.std.proofs.Common.{ap, sym, ◌∙◌}
use Rattle.qc_words.specs.declared.operator.Op.{Op}
use Rattle.qc_bodies.specs.declared.tree.Leaf as sort_of_leaf
use Rattle.qc_bodies.specs.declared.tree.Wrap as sort_of_wrap
use Rattle.qc_bodies.specs.declared.normal.Normal.{Normal, fold-Normal, fold-roll-Normal}
use Rattle.qc_bodies.specs.declared.normal.Normal.TheVariants as code
use Rattle.qc_bodies.specs.declared.normal.Normal.TheOpen as open_normal
use Rattle.qc_bodies.specs.declared.normal.Normals.{Normals}
use Rattle.qc_bodies.specs.declared.normal.Ranked.{Ranked}
use Rattle.qc_bodies.specs.Trees.{Core, Sort, one, many, Leaf, Absent, Param, Wrap, Operate, Use, Apply, none, more, several}
use Rattle.qc_bodies.specs.Law.Acts.{Body, Function}
use Rattle.qc_bodies.specs.Meanings.{value_or}

-- the expressions at these places
abbrev pub at_places : List (Core one) → List ℕ → List (Core one)
at_places es places = map (λ k. value_or (Absent 0) (slice_get es k)) places

-- one layer of an expression over its parts
abbrev pub normal_layer : open_normal.Normal-F (Core one) → Core one
normal_layer (open_normal.Leaf token leaf width) = Leaf token leaf width
normal_layer (open_normal.Absent token) = Absent token
normal_layer (open_normal.Param number) = Param number
normal_layer (open_normal.Wrap token wrap width part) = Wrap token wrap width part
normal_layer (open_normal.Operate token op args) = Operate token op (several args)
normal_layer (open_normal.Use token number args chosen) = Use token number [] (several (at_places args chosen))

unfoldable pub normal_of : Normal → Core one
normal_of = fold-Normal (Core one) normal_layer

abbrev pub normals_of : List Normal → Core many
normals_of es = several (map normal_of es)

-- an expression whose parameters are named by their ranks
abbrev pub ranked_param : Option (Option ℕ) → Core one
ranked_param None = Absent 0
ranked_param (Some None) = Absent 0
ranked_param (Some (Some rank)) = Param rank

abbrev pub ranked : {s : Sort} → List (Option ℕ) → Core s → Core s
ranked ranks (Leaf token leaf width) = Leaf token leaf width
ranked ranks (Absent token) = Absent token
ranked ranks (Param number) = ranked_param (slice_get ranks number)
ranked ranks (Wrap token wrap width part) = Wrap token wrap width (ranked ranks part)
ranked ranks (Operate token op args) = Operate token op (ranked ranks args)
ranked ranks (Use token number callees args) = Use token number callees (ranked ranks args)
ranked ranks (Apply token number args) = Apply token number (ranked ranks args)
ranked ranks none = none
ranked ranks (more e es) = more (ranked ranks e) (ranked ranks es)

abbrev pub function_of : Ranked → Body
function_of f = Function (ranked f.ranks (normal_of f.body))

abbrev pub functions_of : Normals → List Body
functions_of normals = map function_of normals.functions

-- the expression of each variant
pub normal-leaf : (token : ℕ) (leaf : sort_of_leaf.Leaf) (width : Option ℕ)
    → normal_of (code.Leaf token leaf width) ≡ Leaf token leaf width
unfolding normal_of
normal-leaf token leaf width =
    ap normal_of (sym (code.rolls-Leaf token leaf width)) ∙ fold-roll-Normal (Core one) normal_layer (open_normal.Leaf token leaf width)

pub normal-absent : (token : ℕ)
    → normal_of (code.Absent token) ≡ Absent token
unfolding normal_of
normal-absent token =
    ap normal_of (sym (code.rolls-Absent token)) ∙ fold-roll-Normal (Core one) normal_layer (open_normal.Absent token)

pub normal-param : (number : ℕ)
    → normal_of (code.Param number) ≡ Param number
unfolding normal_of
normal-param number =
    ap normal_of (sym (code.rolls-Param number)) ∙ fold-roll-Normal (Core one) normal_layer (open_normal.Param number)

pub normal-wrap : (token : ℕ) (wrap : sort_of_wrap.Wrap) (width : Option ℕ) (part : Normal)
    → normal_of (code.Wrap token wrap width part) ≡ Wrap token wrap width (normal_of part)
unfolding normal_of
normal-wrap token wrap width part =
    ap normal_of (sym (code.rolls-Wrap token wrap width part)) ∙ fold-roll-Normal (Core one) normal_layer (open_normal.Wrap token wrap width part)

pub normal-operate : (token : ℕ) (op : Op) (args : List Normal)
    → normal_of (code.Operate token op args) ≡ Operate token op (normals_of args)
unfolding normal_of
normal-operate token op args =
    ap normal_of (sym (code.rolls-Operate token op args)) ∙ fold-roll-Normal (Core one) normal_layer (open_normal.Operate token op args)

pub normal-use : (token number : ℕ) (args : List Normal) (chosen : List ℕ)
    → normal_of (code.Use token number args chosen) ≡ Use token number [] (several (at_places (map normal_of args) chosen))
unfolding normal_of
normal-use token number args chosen =
    ap normal_of (sym (code.rolls-Use token number args chosen)) ∙ fold-roll-Normal (Core one) normal_layer (open_normal.Use token number args chosen)
