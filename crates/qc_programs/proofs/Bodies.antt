-- Each procedure of a program has a body.
use Rattle.std.specs.Prelude.{ℕ, suc, ◌+◌, ◌≡◌, List, [], ◌∷◌, length}
use Rattle.std.proofs.Common.{refl, ap}
use Rattle.qc_cmm.specs.declared.syntax.Procedure.{Procedure}
use Rattle.qc_cmm.specs.declared.syntax.Program.{Program}
use Rattle.qc_cmmtype.specs.declared.scope.Ground.{Ground}
use Rattle.qc_cmmtype.specs.Scopes.{label_names}
use Rattle.qc_cmmtype.specs.Measures.{procedures_of}
use Rattle.qc_programs.specs.Resolved.{bodies_from, bodies_of}

all_bodies : (g : Ground) (program : Program) (labels : ℕ) (ps : List Procedure) → length (bodies_from g program labels ps) ≡ length ps
all_bodies g program labels [] = refl
all_bodies g program labels (p ∷ ps) = ap suc (all_bodies g program (labels + length (label_names p)) ps)

pub have_bodies : (g : Ground) (program : Program) → length (bodies_of g program).procedures ≡ length (procedures_of program)
unfolding bodies_of
have_bodies g program = all_bodies g program 0 (procedures_of program)
