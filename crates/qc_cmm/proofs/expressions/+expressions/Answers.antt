use Rattle.qc_grammar.specs.Law.Loops.{gives_alike}
use Rattle.qc_grammar.specs.Reading.{reads}
use Rattle.qc_cmm.specs.Cmm.{cmm, expr, expr_unrolls}
use Rattle.qc_cmm.proofs.expressions.+expressions.Goals as goal

pub read_any_expr-returns : goal.read_any_expr-returns
read_any_expr-returns t c =
    gives_alike c.read_expr.result c.args.cursor.now c.read_expr.new.cursor (reads cmm expr) _ expr_unrolls
    c.read_expr.ensures
