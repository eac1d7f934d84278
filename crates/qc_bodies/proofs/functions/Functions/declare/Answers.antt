use Rattle.std.proofs.Common.{◌++◌, ◌∷◌, [], List, subst, sym, ◌∙◌}
use Rattle.std.proofs.lemmas.Result.{on_ok_weaker}
use Rattle.qc_bodies.specs.declared.shape.Shape.{Shape}
use Rattle.qc_bodies.specs.Trees.{Core, one}
use Rattle.qc_bodies.specs.Shapes.{AreShapes, IsShape}
use Rattle.qc_bodies.specs.Law.Related.{related_append}
use Rattle.qc_bodies.specs.Inner.Expanding.{written_functions}
use Rattle.qc_bodies.proofs.Reducing.{shapes_stay}
use Rattle.qc_bodies.proofs.functions.Functions.declare.Goals as goal

pub returns : goal.returns
returns c =
    let self = c.args.self.now in
    let old = written_functions self.normals in
    let new = written_functions c.shape_of.new.normals in
    on_ok_weaker c.push.result (λ ok ms fits m is.
    let P : List Shape → Type 0 = λ l. AreShapes old l ms in
    let Q : List Shape → Type 0 = λ l. AreShapes new l (ms ++ m ∷ []) in
    let comes = λ (es : List (Core one)). is es ∙ sym (c.in_ok-body.ensures old ms (subst P (sym c.as_slice.ensures) fits) es) in
    subst Q (sym ok) (related_append (IsShape new) self.shapes ms (c.in_ok-shape.shape ∷ []) (m ∷ [])
    (shapes_stay old new c.in_ok-shape.ensures.stay self.shapes ms fits)
    (c.in_ok-shape.ensures.shape m comes, tt))) c.push.ensures.ok
