use Rattle.qc_grammar.specs.Reading.{reads}
use Rattle.qc_grammar.specs.Grammar.{number}
use Rattle.qc_tabletext.specs.TableText.{table_text, number_shortens}
use Rattle.qc_tabletext.proofs.steps.read_path.Goals as goal

pub returns : goal.returns
returns c = c.read_separated_by.ensures (reads table_text number) number_shortens (λ old result new given. given)
