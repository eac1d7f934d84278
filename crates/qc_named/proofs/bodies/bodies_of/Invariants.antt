use Rattle.qc_named.proofs.Declared.{AreFirst}
use Rattle.qc_named.proofs.bodies.bodies_of.Given as goal

abbrev pub invariant-loop-item : goal.invariant-loop-item
invariant-loop-item l = AreFirst l.context.facts.now l.context.items.now l.item-index l.found
