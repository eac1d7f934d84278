use Rattle.std.proofs.Common.{take}
use Rattle.qc_bodies.specs.Normals.{normals_of}
use Rattle.qc_bodies.specs.Inner.Marking.{Each, IsMarked, Marked}
use Rattle.qc_bodies.proofs.marks.+marking.Given as goal

abbrev pub invariant-mark_all-loop-body : goal.invariant-mark_all-loop-body
invariant-mark_all-loop-body l = Marked l.initial.marks l.marks (Each (IsMarked l.marks) (normals_of (take l.body-index l.bodies)))
