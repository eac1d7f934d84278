use Rattle.std.proofs.Common.{sym, ◌∙◌}
use Rattle.qc_constants.proofs.ProgramTexts.{many_outputs}
use Rattle.qc_constants.proofs.reader.outputs.Goals as goal

pub returns-then-len-eq-MOST_OUTPUTS-clause-none : goal.returns-then-len-eq-MOST_OUTPUTS-clause-none
returns-then-len-eq-MOST_OUTPUTS-clause-none c = λ none.
    many_outputs _ c.loop-word.words c.loop-word.rest.now c.in-Some.word c.in-Some.more.now (sym c.len.ensures ∙ c.if-len-eq-MOST_OUTPUTS.true) c.loop-word.invariant.small c.in-Some.ensures.word c.loop-word.invariant.split c.in-Some.ensures.some
