use Rattle.qc_grammar.specs.Law.Spelling.{same_words}
use Rattle.qc_grammar.specs.Printing.{as_text}
use Rattle.qc_cmm.specs.Cmm.{cmm, program}
use Rattle.qc_cmm.specs.Printed.{program_words}
use Rattle.qc_cmm.specs.Law.Texts.{program_texts}
use Rattle.qc_cmm.proofs.laws.same_trees_have_the_same_words.Goals as goal

pub returns : goal.returns
returns c = same_words as_text cmm program program_words program_texts
