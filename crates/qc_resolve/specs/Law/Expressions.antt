-- The expression of each variant.
use Rattle.qc_resolve.specs.Expressions.{expression-literal, expression-input, expression-after, expression-mem, expression-zx, expression-sx, expression-slice, expression-name, expression-call, expression-cell}

pub ruleset laws = (
  expression-literal,
  expression-input,
  expression-after,
  expression-mem,
  expression-zx,
  expression-sx,
  expression-slice,
  expression-name,
  expression-call,
  expression-cell,
)
