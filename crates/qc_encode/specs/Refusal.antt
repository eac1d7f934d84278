-- Which operand is named where an instance can't be encoded.
use Rattle.std.specs.Prelude.{ℕ, ◌≡◌, ◌<◌, List, length, slice_get, slice_index, Some}
use Rattle.qc_descr.specs.declared.coding.Coding.{Coding}
use Rattle.qc_descr.specs.declared.coding.Reach.{Reach}
use Rattle.qc_descr.specs.declared.description.Description.{Description}
use Rattle.qc_descr.specs.declared.description.Instruction.{Instruction}
use Rattle.qc_descr.specs.Encoding.{IsCodable}
use Rattle.qc_encode.specs.declared.operands.OutOfReach.{OutOfReach}

-- Of these operands it is the first that can't be coded at the address, with its value.
pub record IsFirstUncodable (coding : Coding) (at : ℕ) (operands : List ℕ) (refusal : OutOfReach) : Type 0 where
  pub within : refusal.operand < length operands
  pub value : refusal.value ≡ slice_index operands refusal.operand
  pub before : (number : ℕ) (reach : Reach) → number < refusal.operand → slice_get coding.reaches number ≡ Some reach →
      IsCodable coding.bits reach at number (slice_index operands number)
  pub reach : Reach
  pub is : slice_get coding.reaches refusal.operand ≡ Some reach
  pub uncodable : IsCodable coding.bits reach at refusal.operand refusal.value → ⊥

-- Of the operands of an instance it is the first that can't be coded at the address, with its value.
pub record IsOutOfReach (d : Description) (at number : ℕ) (operands : List ℕ) (refusal : OutOfReach) : Type 0 where
  pub instruction : Instruction
  pub is : slice_get d.instructions number ≡ Some instruction
  pub first : IsFirstUncodable instruction.coding at operands refusal
