-- Names of a description: they are names of machine texts, and spaces, instructions, and operands of one instruction differ in them.
use Rattle.std.specs.Prelude.{ℕ, ◌≡◌, false, List, [], ◌∷◌, map, All, codes}
use Rattle.std.specs.List.{list_any}
use Rattle.std.specs.Str.{bytes_eq}
use Rattle.qc_text.specs.declared.token.Kind.TheVariants.{Name}
use Rattle.qc_text.specs.Tokens.{IsTokenText}
use Rattle.qc_descr.specs.declared.description.Description.{Description}
use Rattle.qc_descr.specs.declared.description.Instruction.{Instruction}

-- the words that machine texts reserve
abbrev pub machine_words : List (List ℕ)
machine_words =
    codes "machine" ∷ codes "word" ∷ codes "byteorder" ∷ codes "little" ∷ codes "big" ∷ codes "align" ∷ codes "slotbits"
    ∷ codes "memory" ∷ codes "code" ∷ codes "data" ∷ codes "space" ∷ codes "cells" ∷ codes "bits" ∷ codes "flags"
    ∷ codes "zero" ∷ codes "frame" ∷ codes "link" ∷ codes "allocatable" ∷ codes "fun" ∷ codes "eff" ∷ codes "instr"
    ∷ codes "imm" ∷ codes "addr" ∷ codes "when" ∷ codes "pc" ∷ codes "out" ∷ codes "halt" ∷ codes "trap" ∷ codes "mem"
    ∷ codes "input" ∷ codes "after" ∷ codes "zx" ∷ codes "sx" ∷ codes "slice" ∷ []

-- A name of a machine's text: a token of its form, and no reserved word.
pub record IsName (text : List ℕ) : Type 0 where
  pub form : IsTokenText Name text
  pub free : list_any (λ word. bytes_eq word text) machine_words ≡ false

-- no two of the names are equal
abbrev pub AreDistinct : List (List ℕ) → Type 0
AreDistinct [] = Unit {0}
AreDistinct (name ∷ names) = (list_any (bytes_eq name) names ≡ false) × AreDistinct names

-- the operands of an instruction differ in their names
abbrev pub HasDistinctOperands : Instruction → Type 0
HasDistinctOperands i = AreDistinct (map (λ operand. operand.0) i.operands)

-- the operands of an instruction have names
abbrev pub HasNamedOperands : Instruction → Type 0
HasNamedOperands i = All (λ operand. IsName operand.0) i.operands

-- The machine, each space, each instruction and each operand has a name of machine texts, by which spaces, instructions,
-- and operands of one instruction are told from the others.
pub record HasNames (d : Description) : Type 0 where
  pub name : IsName d.name
  pub space_names : All (λ s. IsName s.name) d.spaces
  pub instruction_names : All (λ i. IsName i.name) d.instructions
  pub operand_names : All HasNamedOperands d.instructions
  pub spaces : AreDistinct (map (λ s. s.name) d.spaces)
  pub instructions : AreDistinct (map (λ i. i.name) d.instructions)
  pub operands : All HasDistinctOperands d.instructions
