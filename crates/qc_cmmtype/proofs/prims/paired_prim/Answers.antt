use Rattle.std.proofs.Common.{sym, ◌∙◌}
use Rattle.qc_names.specs.Law.Tables.{bytes_eq-symm}
use Rattle.qc_cmmtype.proofs.Lookups.{named_here, named_later}
use Rattle.qc_cmmtype.proofs.prims.paired_prim.Goals as goal

pub returns-then-eq : goal.returns-then-eq
returns-then-eq c =
    named_here (λ p. (p.0.now, p.1)) c.args.pairs.now c.loop-pair.pair-index c.pair-item.result c.args.name.now _
    c.loop-pair-test.true c.pair-item.is c.loop-pair.invariant
    (bytes_eq-symm c.args.name.now c.pair-item.result.0.now ∙ sym c.eq.ensures ∙ c.if-eq.true)

pub loop-pair-preserved : goal.loop-pair-preserved
loop-pair-preserved c =
    named_later (λ p. (p.0.now, p.1)) c.args.pairs.now c.loop-pair.pair-index c.pair-item.result c.args.name.now _
    c.loop-pair-test.true c.pair-item.is c.loop-pair.invariant
    (bytes_eq-symm c.args.name.now c.pair-item.result.0.now ∙ sym c.eq.ensures ∙ c.if-eq.false)
