use Rattle.qc_grammar.specs.Grammar.{nonterminal}
use Rattle.qc_grammar.specs.Law.Loops.{gives_alike}
use Rattle.qc_grammar.specs.Reading.{reads}
use Rattle.qc_tabletext.specs.TableText.{table_text, any_expr, expr, expr_shortens, expr_unrolls, exprs}
use Rattle.qc_tabletext.proofs.expressions.+expressions.Goals as goal

pub read_any_expr-returns : goal.read_any_expr-returns
read_any_expr-returns t c = gives_alike c.read_expr.result c.args.cursor.now c.read_expr.new.cursor
    (reads table_text expr) _ expr_unrolls c.read_expr.ensures

pub read_exprs-returns : goal.read_exprs-returns
unfolding exprs
read_exprs-returns t c =
    c.read_separated_by.ensures (reads table_text (nonterminal any_expr)) expr_shortens (λ old result new given. given)
