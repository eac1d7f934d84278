use Rattle.std.proofs.Common.{sym, subst}
use Rattle.qc_grammar.specs.TextAnswer.{IsScanned}
use Rattle.qc_grammar.specs.Law.Having.{names_kept}
use Rattle.qc_grammar.specs.Law.TextAnswer.{text_answered, unscanned}
use Rattle.qc_tabletext.specs.TableText.{table_text, tables}
use Rattle.qc_tabletext.specs.Vocabulary.{vocabulary}
use Rattle.qc_tabletext.specs.Bounded.{IsBounded}
use Rattle.qc_tabletext.proofs.BoundedTexts.{tables_bounded}
use Rattle.qc_tabletext.proofs.reader.read_table_text.Goals as goal

pub returns-in-Ok-clause-answer : goal.returns-in-Ok-clause-answer
returns-in-Ok-clause-answer c =
    text_answered table_text tables vocabulary c.args.bytes.now c.as_slice.result.now
    (subst (IsScanned vocabulary c.args.bytes.now) (sym c.as_slice.ensures.value) c.in-Ok.ensures)
    c.read_tokens.result c.read_tokens.ensures c.answer.result c.answer.ensures

pub returns-in-Ok-clause-bounded : goal.returns-in-Ok-clause-bounded
returns-in-Ok-clause-bounded c =
    names_kept table_text tables vocabulary IsBounded tables_bounded c.texts_of_their_kinds.ensures c.args.bytes.now
    c.answer.result (returns-in-Ok-clause-answer c)

pub returns-in-Err-clause-answer : goal.returns-in-Err-clause-answer
returns-in-Err-clause-answer c = unscanned table_text tables vocabulary c.args.bytes.now c.in-Err.end c.in-Err.ensures
