use Rattle.qc_words.specs.Law.Results.{word_of_wider}
use Rattle.qc_words.proofs.operator.zx.Goals as goal

pub returns-clause-word : goal.returns-clause-word
returns-clause-word c = word_of_wider c.args.a c.args.w c.args.to c.requires.operand c.requires.wider
