use Rattle.qc_instances.specs.Instances.{AreInstances, bodies_of}
use Rattle.qc_instances.proofs.instances.Instances.plain.Given as goal

abbrev pub invariant-loop-attempt : goal.invariant-loop-attempt
invariant-loop-attempt l = AreInstances (bodies_of l.declared) l.self
