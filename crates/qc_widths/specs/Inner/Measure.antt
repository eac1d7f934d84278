-- How long an evaluation may go on.
use Rattle.std.specs.Prelude.{ℕ, suc, ◌+◌, ◌*◌, List, [], ◌∷◌, length}
use Rattle.qc_lrtl.specs.declared.syntax.Expr.{size-Expr}
use Rattle.qc_lrtl.specs.declared.syntax.Item.{Item}
use Rattle.qc_lrtl.specs.declared.syntax.Item.TheVariants.{Function}
use Rattle.qc_widths.specs.declared.scope.Scope.{Scope}
use Rattle.qc_resolve.specs.Declarations.{function_items}

-- the depth of a function's body
abbrev pub depth_of : Item → ℕ
depth_of (Function token name params body) = size-Expr body
depth_of _ = 0

-- more than the depth of each body
abbrev pub depths_of : List Item → ℕ
depths_of [] = 1
depths_of (item ∷ items) = depth_of item + depths_of items

-- A bound on the steps that are left once the current expression is done. Evaluation then goes on in the body of a
-- function with a number below the level, or of one that a parameter stands for; in the latter no parameter stands for a
-- function.
unfoldable pub potential_of : ℕ → ℕ → ℕ → ℕ → ℕ
potential_of count depths ceiling level = (ceiling * suc count + level) * depths

-- the bound for a scope of the code
abbrev pub potential : Scope → ℕ
potential kept = potential_of (length (function_items kept.items.now)) (depths_of (function_items kept.items.now))
    kept.ceiling kept.level
