-- Parts of a description, and what its instructions' operands may be.
use Rattle.std.specs.Prelude.{ℕ, ◌<◌, ◌≤◌, ◌^◌, ◌/◌, List, [], ◌∷◌, map, sum, slice_index}
use Rattle.qc_terms.specs.State.{Context}
use Rattle.qc_descr.specs.declared.description.Description.{Description}
use Rattle.qc_descr.specs.declared.description.Instruction.{Instruction}
use Rattle.qc_descr.specs.declared.description.OperandKind.{OperandKind}
use Rattle.qc_descr.specs.declared.description.OperandKind.TheVariants.{Register, Imm, Addr}

-- the width and the number of cells of each space
abbrev pub widths_of : Description → List ℕ
widths_of d = map (λ s. s.width) d.spaces

abbrev pub counts_of : Description → List ℕ
counts_of d = map (λ s. s.cells) d.spaces

-- what the description's register transfer lists are typed for
abbrev pub context_of_description : Description → Context
context_of_description d = record { word = d.facts.word; widths = widths_of d; counts = counts_of d }

abbrev pub kinds_of : Instruction → List OperandKind
kinds_of i = map (λ o. o.1) i.operands

-- how many bytes an instruction has
abbrev pub size_of : Instruction → ℕ
size_of i = sum i.coding.tokens / 8

-- a register is one of its space's cells, an immediate has no more bits than its width, and an address is a word
abbrev pub IsInRange : Description → OperandKind → ℕ → Type 0
IsInRange d (Register space) operand = operand < slice_index (counts_of d) space
IsInRange d (Imm width) operand = operand < 2 ^ width
IsInRange d Addr operand = operand < 2 ^ d.facts.word

-- there is one operand for each kind, in range
abbrev pub AreInRange : Description → List OperandKind → List ℕ → Type 0
AreInRange d [] [] = Unit {0}
AreInRange d [] (operand ∷ operands) = ⊥
AreInRange d (kind ∷ kinds) [] = ⊥
AreInRange d (kind ∷ kinds) (operand ∷ operands) = IsInRange d kind operand × AreInRange d kinds operands

-- an immediate is one of 64 bits at most
abbrev pub IsNarrow : OperandKind → Type 0
IsNarrow (Register space) = Unit {0}
IsNarrow (Imm width) = width ≤ 64
IsNarrow Addr = Unit {0}
