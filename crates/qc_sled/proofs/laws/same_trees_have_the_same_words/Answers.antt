use Rattle.qc_grammar.specs.Law.Spelling.{same_words}
use Rattle.qc_grammar.specs.Printing.{as_text}
use Rattle.qc_sled.specs.Sled.{sled, coding}
use Rattle.qc_sled.specs.Printed.{coding_words, coding_texts}
use Rattle.qc_sled.proofs.laws.same_trees_have_the_same_words.Goals as goal

pub returns : goal.returns
returns c = same_words as_text sled coding coding_words coding_texts
