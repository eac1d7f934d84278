use Rattle.std.proofs.Common.{refl}
use Rattle.qc_names.specs.Law.Tables.{entered_more}
use Rattle.qc_facts.proofs.operators.names_of.Goals as goal

pub loop-pair-preserved : goal.loop-pair-preserved
loop-pair-preserved c =
    entered_more (λ p. p.0.now) c.loop-pair.names c.enter.new.self c.args.pairs.now c.loop-pair.pair-index
    c.pair-item.result c.pair-item.result.0.now c.loop-pair-test.true c.pair-item.is refl c.in_ok-enter.ensures.after
    c.loop-pair.invariant
