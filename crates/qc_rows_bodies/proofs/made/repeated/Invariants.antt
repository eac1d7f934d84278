use Rattle.qc_instances.specs.Instances.{AreInstances, bodies_of}
use Rattle.qc_rows_bodies.proofs.made.repeated.Given as goal

abbrev pub invariant-loop-time : goal.invariant-loop-time
invariant-loop-time l = AreInstances (bodies_of l.declared) l.instances
