use Rattle.std.proofs.Common.{sym, subst}
use Rattle.qc_grammar.specs.TextAnswer.{IsScanned}
use Rattle.qc_grammar.specs.Law.Having.{names_kept}
use Rattle.qc_grammar.specs.Law.TextAnswer.{text_answered, unscanned}
use Rattle.qc_lrtl.specs.LambdaRtl.{lambda_rtl, machine, vocabulary}
use Rattle.qc_lrtl.specs.Named.{AreNamed}
use Rattle.qc_lrtl.proofs.NamedTexts.{machine_has}
use Rattle.qc_lrtl.proofs.reader.read_lrtl.Goals as goal

pub returns-in-Ok-clause-answer : goal.returns-in-Ok-clause-answer
returns-in-Ok-clause-answer c =
    text_answered lambda_rtl machine vocabulary c.args.bytes.now c.as_slice.result.now
    (subst (IsScanned vocabulary c.args.bytes.now) (sym c.as_slice.ensures.value) c.in-Ok.ensures)
    c.read_tokens.result c.read_tokens.ensures c.answer.result c.answer.ensures

pub returns-in-Ok-clause-named : goal.returns-in-Ok-clause-named
returns-in-Ok-clause-named c =
    names_kept lambda_rtl machine vocabulary AreNamed machine_has c.texts_of_their_kinds.ensures c.args.bytes.now
    c.answer.result (returns-in-Ok-clause-answer c)

pub returns-in-Err-clause-answer : goal.returns-in-Err-clause-answer
returns-in-Err-clause-answer c = unscanned lambda_rtl machine vocabulary c.args.bytes.now c.in-Err.end c.in-Err.ensures
