use Rattle.std.proofs.Common.{sym, subst}
use Rattle.qc_grammar.specs.TextAnswer.{IsScanned}
use Rattle.qc_grammar.specs.Law.TextAnswer.{text_answered, unscanned}
use Rattle.qc_cmm.specs.Cmm.{cmm, program}
use Rattle.qc_cmm.specs.Vocabulary.{vocabulary}
use Rattle.qc_cmm.specs.Law.Weight.{light_answer}
use Rattle.qc_cmm.proofs.reader.read_cmm.Goals as goal

pub returns-in-Ok-clause-answer : goal.returns-in-Ok-clause-answer
returns-in-Ok-clause-answer c =
    text_answered cmm program vocabulary c.args.bytes.now c.as_slice.result.now
    (subst (IsScanned vocabulary c.args.bytes.now) (sym c.as_slice.ensures.value) c.in-Ok.ensures)
    c.read_tokens.result c.read_tokens.ensures c.answer.result c.answer.ensures

pub returns-in-Ok-clause-light : goal.returns-in-Ok-clause-light
returns-in-Ok-clause-light c = light_answer c.args.bytes.now c.answer.result (returns-in-Ok-clause-answer c)

pub returns-in-Err-clause-answer : goal.returns-in-Err-clause-answer
returns-in-Err-clause-answer c = unscanned cmm program vocabulary c.args.bytes.now c.in-Err.end c.in-Err.ensures
