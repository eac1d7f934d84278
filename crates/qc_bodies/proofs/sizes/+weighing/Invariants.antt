use Rattle.std.proofs.Common.{◌*◌, [], take}
use Rattle.qc_bodies.specs.Meanings.{value}
use Rattle.qc_bodies.specs.Plains.{plains_of}
use Rattle.qc_bodies.specs.Sizes.{added, sizes, weighed}
use Rattle.qc_bodies.specs.Inner.Weighing.{Grows}
use Rattle.qc_bodies.proofs.sizes.+weighing.Given as goal

abbrev pub invariant-weigh_all-loop-arg : goal.invariant-weigh_all-loop-arg
invariant-weigh_all-loop-arg l = Grows l.forms l.initial.form l.form
    (λ ms ns. l.times * added (value sizes ms [] ns (plains_of (take l.arg-index l.args))))

abbrev pub invariant-weigh_each-loop-place : goal.invariant-weigh_each-loop-place
invariant-weigh_each-loop-place l = Grows l.forms l.initial.form l.form
    (λ ms ns. l.times * weighed (take l.place l.counts) (value sizes ms [] ns (plains_of l.args)))
