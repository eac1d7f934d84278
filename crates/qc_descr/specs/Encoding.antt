-- The bytes of instances, which are instructions of a description with their operands.
use Rattle.std.specs.Prelude.{ℕ, ◌≡◌, ◌+◌, List, [], ◌∷◌, ◌++◌, length, map, slice_get, slice_index, Option, None, Some}
use Rattle.std.specs.Prelude.{false}
use Rattle.std.specs.Int.{bit_at}
use Rattle.std.specs.List.{list_any}
use Rattle.qc_terms.specs.declared.state.Order.{Order}
use Rattle.qc_descr.specs.declared.coding.Bit.{Bit}
use Rattle.qc_descr.specs.declared.coding.Coding.{Coding}
use Rattle.qc_descr.specs.declared.coding.Reach.{Reach}
use Rattle.qc_descr.specs.declared.description.Description.{Description}
use Rattle.qc_descr.specs.declared.description.Instruction.{Instruction}
use Rattle.qc_descr.specs.Coding.{bit_value, is_piece, number_of, memory_bytes}
use Rattle.qc_descr.specs.Description.{AreInRange, kinds_of}
use Rattle.qc_descr.specs.Reach.{IsReached, coded_operands, coded_value}

-- a byte of these bits under the coded values of the operands
abbrev pub byte_value : List ℕ → List Bit → ℕ
byte_value operands bits = number_of (map (bit_value operands) bits)

-- the bytes of a coding under the coded values of the operands
abbrev pub coded_bytes : Order → Coding → List ℕ → List ℕ
coded_bytes order coding operands = map (byte_value operands) (memory_bytes order coding)

-- The description has an instruction of this number, and its operands are there and in range.
pub record IsInstance (d : Description) (number : ℕ) (operands : List ℕ) : Type 0 where
  pub instruction : Instruction
  pub is : slice_get d.instructions number ≡ Some instruction
  pub in_range : AreInRange d (kinds_of instruction) operands

-- The operand of this number can be coded at the address by a coding of these bits: it is within reach, and each bit of
-- its coded value that has no place among the bits is 0.
pub record IsCodable (bits : List Bit) (reach : Reach) (at number operand : ℕ) : Type 0 where
  pub reached : IsReached reach at operand
  pub kept : (bit : ℕ) → list_any (is_piece number bit) bits ≡ false → bit_at (coded_value reach at operand) bit ≡ 0

-- each operand can be coded at the address
abbrev pub AreCodable : Coding → ℕ → List ℕ → Type 0
AreCodable coding at operands =
    (number : ℕ) (reach : Reach) → slice_get coding.reaches number ≡ Some reach
    → IsCodable coding.bits reach at number (slice_index operands number)

-- These are the instruction's bytes under the operands, which are there, in range and codable at the address. The address
-- is that of the first byte.
pub record IsCodedBy (d : Description) (i : Instruction) (at : ℕ) (operands bytes : List ℕ) : Type 0 where
  pub in_range : AreInRange d (kinds_of i) operands
  pub codable : AreCodable i.coding at operands
  pub bytes_are : bytes ≡ coded_bytes d.facts.order i.coding (coded_operands i.coding.reaches at operands)

-- An instance's bytes at an address: constant bits as the coding of its instruction says, the others filled from the
-- coded values of its operands.
pub record Encodes (d : Description) (at number : ℕ) (operands bytes : List ℕ) : Type 0 where
  pub instruction : Instruction
  pub is : slice_get d.instructions number ≡ Some instruction
  pub coded : IsCodedBy d instruction at operands bytes

-- an instruction, by its number in the description, with its operands
pub record InstanceOf : Type 0 where
  pub number : ℕ
  pub operands : List ℕ

-- the bytes of an instruction of the description under the operands at an address
abbrev pub bytes_under : Description → ℕ → List ℕ → Option Instruction → List ℕ
bytes_under d at operands None = []
bytes_under d at operands (Some i) =
    coded_bytes d.facts.order i.coding (coded_operands i.coding.reaches at operands)

abbrev pub instance_bytes : Description → ℕ → InstanceOf → List ℕ
instance_bytes d at i = bytes_under d at i.operands (slice_get d.instructions i.number)

-- the bytes of instances one after another, of which the first stands at the address
abbrev pub code_bytes : Description → ℕ → List InstanceOf → List ℕ
code_bytes d at [] = []
code_bytes d at (i ∷ is) = instance_bytes d at i ++ code_bytes d (at + length (instance_bytes d at i)) is

-- a code at an address that decodes, one after another from its first byte to its end, into these instances
abbrev pub DecodesInto : Description → ℕ → List ℕ → List InstanceOf → Type 0
DecodesInto d at code [] = code ≡ []
DecodesInto d at code (i ∷ is) =
    (bytes more : List ℕ) × Encodes d at i.number i.operands bytes × (code ≡ bytes ++ more)
    × DecodesInto d (at + length bytes) more is
