-- Machines that programs of constants are compiled for: those with the instructions const, op_out and op_halt of tin32.
use Rattle.std.specs.Prelude.{ℕ, zero, suc, ◌≡◌, ◌≤◌, ◌*◌, List, [], ◌∷◌, ◌++◌, nat_eq, None, Some, codes, slice_get}
use Rattle.std.specs.Int.{bit_at}
use Rattle.qc_terms.specs.declared.state.Order.TheVariants.{Little}
use Rattle.qc_terms.specs.declared.term.Dest.{Dest}
use Rattle.qc_terms.specs.declared.term.Dest.TheVariants as dest
use Rattle.qc_terms.specs.declared.term.Place.TheVariants.{Operand}
use Rattle.qc_terms.specs.declared.term.Term.{Term}
use Rattle.qc_terms.specs.declared.term.Term.TheVariants as term
use Rattle.qc_descr.specs.declared.coding.Bit.{Bit}
use Rattle.qc_descr.specs.declared.coding.Bit.TheVariants.{Fixed, Piece}
use Rattle.qc_descr.specs.declared.coding.Reach.{Reach}
use Rattle.qc_descr.specs.declared.coding.Reach.TheVariants.{Plain}
use Rattle.qc_descr.specs.declared.description.Description.{Description}
use Rattle.qc_descr.specs.declared.description.Instruction.{Instruction}
use Rattle.qc_descr.specs.declared.description.OperandKind.{OperandKind}
use Rattle.qc_descr.specs.declared.description.OperandKind.TheVariants.{Register, Imm}

-- a value for each number below n, in order
unfoldable pub each_below : ℕ → (ℕ → Bit) → List Bit
each_below zero f = []
each_below (suc n) f = each_below n f ++ f n ∷ []

-- the lowest bits of a number, each fixed
abbrev pub fixed_bits : ℕ → ℕ → List Bit
fixed_bits count value = each_below count (λ i. Fixed (nat_eq (bit_at value i) 1))

-- the lowest bits of an operand
abbrev pub operand_bits : ℕ → ℕ → List Bit
operand_bits count operand = each_below count (λ i. Piece operand i)

-- The first token of 32 bits: the opcode in its lowest 8 bits, the register of operand 0 in the next 4, and zeros.
unfoldable pub first_token : ℕ → List Bit
first_token opcode = fixed_bits 8 opcode ++ operand_bits 4 0 ++ fixed_bits 20 0

-- the second token without an immediate, and with the immediate that is operand 1
unfoldable pub empty_token : List Bit
empty_token = fixed_bits 32 0

unfoldable pub immediate_token : List Bit
immediate_token = operand_bits 32 1

-- an instruction with one effect and two tokens of 32 bits
abbrev pub instruction_of : List ℕ → List (List ℕ × OperandKind) → Dest → Term → List Bit → List Reach → Instruction
instruction_of name operands to value bits reaches = record {
  name = name;
  operands = operands;
  rtl = record { effects = record { guard = None; to = to; value = value } ∷ [] };
  coding = record { tokens = 32 ∷ 32 ∷ []; bits = bits; reaches = reaches };
}

-- a register of the first space as an operand of this name
abbrev pub register_operand : List ℕ → List ℕ × OperandKind
register_operand name = (name, Register 0)

-- const: d := k
unfoldable pub const_instruction : Instruction
const_instruction =
    instruction_of (codes "const") (register_operand (codes "d") ∷ (codes "k", Imm 32) ∷ [])
    (dest.Reg (Operand 0 0)) (term.Imm 1 32) (first_token 2 ++ immediate_token) (Plain ∷ Plain ∷ [])

-- an instruction whose one effect gives the register that is operand 0 to a destination
unfoldable pub register_instruction : List ℕ → Dest → ℕ → Instruction
register_instruction name to opcode =
    instruction_of name (register_operand (codes "a") ∷ [])
    to (term.Reg (Operand 0 0) 32) (first_token opcode ++ empty_token) (Plain ∷ [])

-- op_out: out := a
unfoldable pub out_instruction : Instruction
out_instruction = register_instruction (codes "op_out") dest.Out 38

-- op_halt: halt := a
unfoldable pub halt_instruction : Instruction
halt_instruction = register_instruction (codes "op_halt") dest.Halt 39

-- The machine has words of 32 bits, whose lowest byte comes first, and no cell that always reads 0. Its code region has
-- room for 1,001 statements of two instructions, each of 8 bytes. The instructions const, op_out and op_halt stand at the
-- places that they have in tin32.
pub record HasConstants (d : Description) : Type 0 where
  pub word : d.facts.word ≡ 32
  pub order : d.facts.order ≡ Little
  pub no_zero_cell : d.facts.zero ≡ None
  pub room : 16 * 1001 ≤ d.code_end
  pub constant : slice_get d.instructions 1 ≡ Some const_instruction
  pub output : slice_get d.instructions 37 ≡ Some out_instruction
  pub halt : slice_get d.instructions 38 ≡ Some halt_instruction
