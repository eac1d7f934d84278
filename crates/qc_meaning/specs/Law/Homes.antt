-- Homed code has the frame of the code that it is made of, and as many procedures.
use Rattle.std.proofs.Common.{◌≡◌, ℕ, suc, ◌+◌, List, [], ◌∷◌, length, ap}
use Rattle.qc_descr.specs.declared.description.Description.{Description}
use Rattle.qc_code.specs.declared.templates.Templates.{Templates}
use Rattle.qc_meaning.specs.declared.lines.Line.{Line}
use Rattle.qc_meaning.specs.Code.{Flat}
use Rattle.qc_meaning.specs.Homed.{Homes, ProceduresAre}

pub as_many : (d : Description) (templates : Templates) (x : Flat) (homes : Homes) (k : ℕ) (procedures placed : List (List Line)) →
    ProceduresAre d templates x homes k procedures placed → length placed ≡ length procedures
as_many d templates x homes k [] placed are = ap length are
as_many d templates x homes k (lines ∷ procedures) [] are = absurd are
as_many d templates x homes k (lines ∷ procedures) (own ∷ placed) are =
    ap suc (as_many d templates x homes (k + length lines) procedures placed are.1)
