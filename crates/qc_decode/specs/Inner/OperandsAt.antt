-- The operands with which an instruction stands at the front of a memory.
use Rattle.std.specs.Prelude.{ℕ, ◌≤◌, List, length, take}
use Rattle.qc_descr.specs.declared.description.Description.{Description}
use Rattle.qc_descr.specs.declared.description.Instruction.{Instruction}
use Rattle.qc_descr.specs.Description.{size_of}
use Rattle.qc_descr.specs.Encoding.{IsCodedBy}
use Rattle.qc_descr.specs.Valid.{HasLayout, IsCovered, IsWithinLimits}

-- what a valid description keeps of each of its instructions
pub record IsInstructionOf (d : Description) (i : Instruction) : Type 0 where
  pub layout : HasLayout d
  pub limits : IsWithinLimits d
  pub covered : IsCovered d i
  pub few : length i.operands ≤ 8

-- with these operands the instruction is coded at the address by the first bytes of the memory
abbrev pub AreOperandsAt : Description → Instruction → ℕ → List ℕ → List ℕ → Type 0
AreOperandsAt d i at memory operands = IsCodedBy d i at operands (take (size_of i) memory)

-- with no operands is the instruction coded at the address by the first bytes of the memory
abbrev pub HasNoOperandsAt : Description → Instruction → ℕ → List ℕ → Type 0
HasNoOperandsAt d i at memory = (operands : List ℕ) → AreOperandsAt d i at memory operands → ⊥
