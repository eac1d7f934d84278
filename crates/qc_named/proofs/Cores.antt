-- The tree of each sort of expression, and the expression of each sort of tree.
use Rattle.std.proofs.Common.{ℕ, ◌≡◌, List, map, ap, sym, ◌∙◌}
use Rattle.std.proofs.lemmas.List.{append-nil, length-map}
use Rattle.qc_grammar.specs.declared.cursor.Ident.{Ident}
use Rattle.qc_grammar.specs.declared.cursor.Number.{Number}
use Rattle.qc_lrtl.specs.declared.syntax.Expr.{Expr, fold-roll-Expr}
use Rattle.qc_lrtl.specs.declared.syntax.Expr.TheVariants as expr
use Rattle.qc_lrtl.specs.declared.syntax.Expr.TheOpen as open_expr
use Rattle.qc_bodies.specs.Trees.{core-leaf, core-absent, core-param, core-wrap, core-operate, core-use, core-apply}
use Rattle.qc_named.specs.Resolved.{Resolved, resolved_layer, resolved}

pub ruleset cores = (
  core-leaf,
  core-absent,
  core-param,
  core-wrap,
  core-operate,
  core-use,
  core-apply,
)

pub resolved-literal : (number bits : Number) → resolved (expr.Literal number bits) ≡ resolved_layer (open_expr.Literal number bits)
unfolding resolved
resolved-literal number bits = ap resolved (sym (expr.rolls-Literal number bits)) ∙ fold-roll-Expr Resolved resolved_layer (open_expr.Literal number bits)

pub resolved-input : (token : ℕ) → resolved (expr.Input token) ≡ resolved_layer (open_expr.Input token)
unfolding resolved
resolved-input token = ap resolved (sym (expr.rolls-Input token)) ∙ fold-roll-Expr Resolved resolved_layer (open_expr.Input token)

pub resolved-after : (token : ℕ) → resolved (expr.After token) ≡ resolved_layer (open_expr.After token)
unfolding resolved
resolved-after token = ap resolved (sym (expr.rolls-After token)) ∙ fold-roll-Expr Resolved resolved_layer (open_expr.After token)

pub resolved-mem : (token : ℕ) (bits : Number) (part : Expr) → resolved (expr.Mem token bits part) ≡ resolved_layer (open_expr.Mem token bits (resolved part))
unfolding resolved
resolved-mem token bits part = ap resolved (sym (expr.rolls-Mem token bits part)) ∙ fold-roll-Expr Resolved resolved_layer (open_expr.Mem token bits part)

pub resolved-zx : (token : ℕ) (bits : Number) (part : Expr) → resolved (expr.Zx token bits part) ≡ resolved_layer (open_expr.Zx token bits (resolved part))
unfolding resolved
resolved-zx token bits part = ap resolved (sym (expr.rolls-Zx token bits part)) ∙ fold-roll-Expr Resolved resolved_layer (open_expr.Zx token bits part)

pub resolved-sx : (token : ℕ) (bits : Number) (part : Expr) → resolved (expr.Sx token bits part) ≡ resolved_layer (open_expr.Sx token bits (resolved part))
unfolding resolved
resolved-sx token bits part = ap resolved (sym (expr.rolls-Sx token bits part)) ∙ fold-roll-Expr Resolved resolved_layer (open_expr.Sx token bits part)

pub resolved-slice : (token : ℕ) (low bits : Number) (part : Expr) → resolved (expr.Slice token low bits part) ≡ resolved_layer (open_expr.Slice token low bits (resolved part))
unfolding resolved
resolved-slice token low bits part = ap resolved (sym (expr.rolls-Slice token low bits part)) ∙ fold-roll-Expr Resolved resolved_layer (open_expr.Slice token low bits part)

pub resolved-name : (name : Ident) → resolved (expr.Name name) ≡ resolved_layer (open_expr.Name name)
unfolding resolved
resolved-name name = ap resolved (sym (expr.rolls-Name name)) ∙ fold-roll-Expr Resolved resolved_layer (open_expr.Name name)

pub resolved-call : (name : Ident) (args : List Expr) → resolved (expr.Call name args) ≡ resolved_layer (open_expr.Call name (map resolved args))
unfolding resolved
resolved-call name args = ap resolved (sym (expr.rolls-Call name args)) ∙ fold-roll-Expr Resolved resolved_layer (open_expr.Call name args)

pub resolved-cell : (space : Ident) (cell : Number) → resolved (expr.Cell space cell) ≡ resolved_layer (open_expr.Cell space cell)
unfolding resolved
resolved-cell space cell = ap resolved (sym (expr.rolls-Cell space cell)) ∙ fold-roll-Expr Resolved resolved_layer (open_expr.Cell space cell)

pub ruleset bares = (
  resolved-literal,
  resolved-input,
  resolved-after,
  resolved-mem,
  resolved-zx,
  resolved-sx,
  resolved-slice,
  resolved-name,
  resolved-call,
  resolved-cell,
)

pub ruleset counts = (core-absent, core-apply, length-map)

pub ruleset lists = (append-nil)
