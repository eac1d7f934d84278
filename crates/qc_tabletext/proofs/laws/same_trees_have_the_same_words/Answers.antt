use Rattle.qc_grammar.specs.Law.Spelling.{same_words}
use Rattle.qc_grammar.specs.Printing.{as_text}
use Rattle.qc_tabletext.specs.TableText.{table_text, tables}
use Rattle.qc_tabletext.specs.Printed.{tables_words, tables_texts}
use Rattle.qc_tabletext.proofs.laws.same_trees_have_the_same_words.Goals as goal

pub returns : goal.returns
returns c = same_words as_text table_text tables tables_words tables_texts
