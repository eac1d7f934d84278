use Rattle.std.proofs.Common.{sym, subst}
use Rattle.qc_grammar.specs.TextAnswer.{IsScanned}
use Rattle.qc_grammar.specs.Law.TextAnswer.{text_answered, unscanned}
use Rattle.qc_sled.specs.Sled.{sled, coding, vocabulary}
use Rattle.qc_sled.proofs.reader.read_sled.Goals as goal

pub returns-in-Ok : goal.returns-in-Ok
returns-in-Ok c =
    text_answered sled coding vocabulary c.args.bytes.now c.as_slice.result.now
    (subst (IsScanned vocabulary c.args.bytes.now) (sym c.as_slice.ensures.value) c.in-Ok.ensures)
    c.read_tokens.result c.read_tokens.ensures c.answer.result c.answer.ensures

pub returns-in-Err : goal.returns-in-Err
returns-in-Err c = unscanned sled coding vocabulary c.args.bytes.now c.in-Err.end c.in-Err.ensures
