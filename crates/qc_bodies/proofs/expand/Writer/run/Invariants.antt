use Rattle.qc_bodies.specs.Trees.{Core, one}
use Rattle.qc_bodies.specs.Nodes.{Keeps}
use Rattle.qc_bodies.specs.Inner.Expanding.{LeadsTo}
use Rattle.qc_bodies.proofs.expand.Writer.run.Given as goal

abbrev pub invariant-loop-step : goal.invariant-loop-step
invariant-loop-step l = record {
  leads : (e : Core one) → LeadsTo l.initial.self l.initial.nodes e → LeadsTo l.self l.nodes e;
  keeps : Keeps l.initial.nodes l.nodes;
}
