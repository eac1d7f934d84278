use Rattle.qc_instances.specs.Instances.{AreInstances, bodies_of}
use Rattle.qc_instances.proofs.instances.Instances.make_all.Given as goal

abbrev pub invariant-loop-step : goal.invariant-loop-step
invariant-loop-step l = AreInstances (bodies_of l.declared) l.self
