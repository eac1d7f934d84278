use Rattle.qc_grammar.specs.Law.Spelling.{same_words}
use Rattle.qc_grammar.specs.Printing.{as_text}
use Rattle.qc_sample.specs.Sample.{sample, program}
use Rattle.qc_sample.specs.Printed.{program_words, program_texts}
use Rattle.qc_sample.proofs.laws.same_trees_have_the_same_words.Goals as goal

pub returns : goal.returns
returns c = same_words as_text sample program program_words program_texts
