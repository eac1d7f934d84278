use Rattle.std.proofs.Common.{List, subst, sym}
use Rattle.std.proofs.lemmas.Result.{IfOk-weaker}
use Rattle.qc_bodies.specs.declared.shape.Shape.{Shape}
use Rattle.qc_bodies.specs.Trees.{Core, one}
use Rattle.qc_bodies.specs.Nodes.{IsAt}
use Rattle.qc_bodies.specs.Shapes.{AreShapes}
use Rattle.qc_bodies.specs.Inner.Expanding.{written_functions}
use Rattle.qc_bodies.proofs.functions.Functions.write_out.Goals as goal

pub returns-clause-place : goal.returns-clause-place
returns-clause-place c =
    let own = written_functions c.args.self.now.normals in
    IfOk-weaker c.write_out.result _ _ (λ p h ms fits es z.
    let P : List Shape → Type 0 = λ l. AreShapes own l ms in
    let Q : Core one → Type 0 = λ e. IsAt c.write_out.new.nodes p e in
    subst Q (c.in_ok-body.ensures own ms (subst P (sym c.as_slice.ensures) fits) es) (h es z))
    c.write_out.ensures.place
