-- No fault is told exactly of what has none.
use Rattle.std.specs.Prelude.{◌≡◌, List, [], ◌∷◌, None}
use Rattle.std.proofs.Common.{refl, ap, ◌↔◌}
use Rattle.qc_cmm.specs.declared.syntax.Program.{Program}
use Rattle.qc_cmmtype.specs.declared.faults.ProgramFault.{ProgramFault}
use Rattle.qc_cmmtype.specs.declared.scope.Ground.{Ground}
use Rattle.qc_cmmtype.specs.Faults.{reported}
use Rattle.qc_cmmtype.specs.Typed.{IsTyped, fault_of, program_faults}

none_told : (faults : List ProgramFault) → reported faults ≡ None → faults ≡ []
none_told [] none = refl
none_told (f ∷ fs) none = cc

pub faultless : (g : Ground) (program : Program) → (fault_of g program ≡ None) ↔ IsTyped g program
faultless g program = (none_told (program_faults g program), λ typed. ap reported typed)
