use Rattle.std.proofs.Common.{sym, subst}
use Rattle.qc_grammar.specs.TextAnswer.{IsScanned}
use Rattle.qc_grammar.specs.Law.TextAnswer.{text_answered, unscanned}
use Rattle.qc_sample.specs.Sample.{vocabulary}
use Rattle.qc_sample.specs.Blocks.{blocks, block}
use Rattle.qc_sample.proofs.blocks.read_block.Goals as goal

pub returns-in-Ok : goal.returns-in-Ok
returns-in-Ok c =
    text_answered blocks block vocabulary c.args.bytes.now c.as_slice.result.now
    (subst (IsScanned vocabulary c.args.bytes.now) (sym c.as_slice.ensures.value) c.in-Ok.ensures)
    c.read_block_tokens.result c.read_block_tokens.ensures c.answer.result c.answer.ensures

pub returns-in-Err : goal.returns-in-Err
returns-in-Err c = unscanned blocks block vocabulary c.args.bytes.now c.in-Err.end c.in-Err.ensures
