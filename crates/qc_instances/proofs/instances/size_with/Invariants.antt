use Rattle.std.proofs.Common.{◌≡◌, ◌+◌, take}
use Rattle.qc_bodies.specs.Sizes.{stopped, weighed}
use Rattle.qc_instances.proofs.instances.size_with.Given as goal

abbrev pub invariant-loop-place : goal.invariant-loop-place
invariant-loop-place l = l.size ≡ stopped (l.form.base + weighed (take l.place l.form.counts) l.sizes)
