-- The instruction of an instance, with what a valid description keeps of it.
use Rattle.std.specs.Prelude.{ℕ, ◌≡◌, ◌≤◌, List, length, All, Some}
use Rattle.std.specs.List.{slice_get}
use Rattle.qc_descr.specs.declared.description.Description.{Description}
use Rattle.qc_descr.specs.declared.description.Instruction.{Instruction}
use Rattle.qc_descr.specs.Description.{AreInRange, kinds_of}
use Rattle.qc_descr.specs.Reach.{HasFewBits}
use Rattle.qc_descr.specs.Valid.{IsCovered}

-- the instruction of this number, which may have these operands
pub record IsInstructionOf (d : Description) (number : ℕ) (operands : List ℕ) (i : Instruction) : Type 0 where
  pub is : slice_get d.instructions number ≡ Some i
  pub covered : IsCovered d i
  pub in_range : AreInRange d (kinds_of i) operands
  pub few : length operands ≤ 8
  pub reaches : length i.coding.reaches ≡ length operands
  pub bits : All HasFewBits i.coding.reaches
