use Rattle.std.proofs.Common.{refl}
use Rattle.qc_join.specs.Faults.{token_of, rank_of}
use Rattle.qc_join.specs.Names.{pattern_faults}
use Rattle.qc_join.specs.Inner.KeptNames.{names_at}
use Rattle.qc_names.specs.Law.Reported.{reported_more}
use Rattle.qc_join.proofs.PatternFaults.{parts_faults}
use Rattle.qc_join.proofs.names.+patterns.Goals as goal

pub parts_fault-loop-part-preserved : goal.parts_fault-loop-part-preserved
parts_fault-loop-part-preserved t c =
    reported_more token_of rank_of (parts_faults (names_at c.args.names.now)) (λ p. pattern_faults p (names_at c.args.names.now))
    (λ p ps. refl) c.args.parts.now c.loop-part.part-index c.part-item.result c.loop-part.found
    c.pattern_fault.result _ _ c.loop-part-test.true c.part-item.is c.pattern_fault.ensures c.earlier-found.ensures
    c.loop-part.invariant
