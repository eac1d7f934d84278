use Rattle.std.proofs.Common.{sym, ◌∙◌}
use Rattle.qc_bodies.specs.Inner.Expanding.{written_functions}
use Rattle.qc_bodies.proofs.Shaping.{length_functions}
use Rattle.qc_bodies.proofs.reduced.shape_of_use.Goals as goal

pub returns-in-Some-clause-shape : goal.returns-in-Some-clause-shape
returns-in-Some-clause-shape c = λ m comes.
    let found = rw c.in-Some.is at c.in_ok-shape.ensures in
    found (written_functions c.args.normals.now) m (c.len.ensures ∙ sym (length_functions c.args.normals.now)) comes
