use Rattle.qc_grammar.specs.Law.Loops.{gives_alike}
use Rattle.qc_grammar.specs.Reading.{reads}
use Rattle.qc_tabletext.specs.TableText.{table_text, binding, binding_shortens, rest, rest_unrolls, several}
use Rattle.qc_tabletext.proofs.bindings.+derivations.Goals as goal

pub read_any_rest-returns : goal.read_any_rest-returns
read_any_rest-returns t c = gives_alike c.read_rest.result c.args.cursor.now c.read_rest.new.cursor
    (reads table_text rest) _ rest_unrolls c.read_rest.ensures

pub read_several-returns : goal.read_several-returns
unfolding several
read_several-returns t c =
    c.read_separated_by.ensures (reads table_text binding) binding_shortens (λ old result new given. given)
