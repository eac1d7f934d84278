use Rattle.std.proofs.Common.{refl}
use Rattle.qc_grammar.specs.Grammar.{nonterminal}
use Rattle.qc_grammar.specs.Law.Lists.{shortens_of}
use Rattle.qc_grammar.specs.Law.Loops.{gives_alike}
use Rattle.qc_grammar.specs.Reading.{reads}
use Rattle.qc_sample.specs.Sample.{sample, sample_is_readable, any_expr, expr, expr_unrolls, exprs}
use Rattle.qc_sample.proofs.expressions.+expressions.Goals as goal

pub read_any_expr-returns : goal.read_any_expr-returns
read_any_expr-returns t c =
    gives_alike c.read_expr.result c.args.cursor.now c.read_expr.new.cursor (reads sample expr) _ expr_unrolls
    c.read_expr.ensures

pub read_exprs-returns : goal.read_exprs-returns
unfolding exprs
read_exprs-returns t c =
    c.read_separated_by.ensures (reads sample (nonterminal any_expr))
    (shortens_of sample sample_is_readable.rules (nonterminal any_expr) refl refl) (λ old result new given. given)
