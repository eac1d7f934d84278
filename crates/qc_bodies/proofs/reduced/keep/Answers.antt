use Rattle.std.proofs.Common.{◌++◌, ◌∷◌, [], List, ℕ, subst, sym, ◌∙◌}
use Rattle.qc_bodies.specs.declared.normal.Ranked.{Ranked}
use Rattle.qc_bodies.specs.Shapes.{IsUseOf}
use Rattle.qc_bodies.specs.Inner.Expanding.{written_functions}
use Rattle.qc_bodies.specs.Inner.Reducing.{Stay}
use Rattle.qc_bodies.proofs.Shaping.{kept, kept_stay}
use Rattle.qc_bodies.proofs.reduced.keep.Goals as goal

pub returns-clause-shape : goal.returns-clause-shape
returns-clause-shape c = λ m comes.
    let marks = c.args.marks in
    let P : List Ranked → Type 0 = λ l. IsUseOf (written_functions (record { functions = l })) c.len-number.result marks.used c.in_ok-chosen.chosen m in
    let Q : ℕ → Type 0 = λ n. IsUseOf (written_functions (record { functions = c.args.normals.now.functions ++ record { body = c.args.body; ranks = marks.ranks } ∷ [] })) n marks.used c.in_ok-chosen.chosen m in
    subst P (sym c.in_ok-push.ensures.ok) (subst Q (sym c.len-number.ensures)
    (kept c.args.normals.now.functions c.args.body marks.ranks marks.used c.in_ok-chosen.chosen m c.requires
    (λ es h. c.in_ok-chosen.ensures es (h ∙ sym c.len.ensures)) comes))

pub returns-clause-stay : goal.returns-clause-stay
returns-clause-stay c =
    let marks = c.args.marks in
    let P : List Ranked → Type 0 = λ l. Stay (written_functions c.args.normals.now) (written_functions (record { functions = l })) in
    subst P (sym c.in_ok-push.ensures.ok) (kept_stay c.args.normals.now.functions (record { body = c.args.body; ranks = marks.ranks }))
