use Rattle.qc_grammar.specs.Law.Spelling.{same_words}
use Rattle.qc_grammar.specs.Printing.{as_text}
use Rattle.qc_lrtl.specs.LambdaRtl.{lambda_rtl, machine}
use Rattle.qc_lrtl.specs.Printed.{machine_words, machine_texts}
use Rattle.qc_lrtl.proofs.laws.same_trees_have_the_same_words.Goals as goal

pub returns : goal.returns
returns c = same_words as_text lambda_rtl machine machine_words machine_texts
