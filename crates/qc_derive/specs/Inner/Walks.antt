-- What a walk through trees answers: the first fault, or the number of the node after them.
use Rattle.std.specs.Prelude.{ℕ, Option, None, Some}
use Rattle.qc_derive.specs.declared.walk.Walked.{Walked}
use Rattle.qc_derive.specs.declared.walk.Walked.TheVariants.{Fault, Next}

abbrev pub walked : Option ℕ → ℕ → Walked
walked None next = Next next
walked (Some node) next = Fault node

-- the fault that a walk found, if it did
abbrev pub fault_in : Walked → Option ℕ
fault_in (Fault node) = Some node
fault_in (Next node) = None
