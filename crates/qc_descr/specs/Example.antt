-- A worked example of coded addresses, by hand: a branch that has one token of 8 bits. The lowest 4 bits are its opcode 5.
-- The highest 4 are the bits 2 to 5 of how far the target is, in two's complement of 6 bits; bits 0 and 1 are dropped.
use Rattle.std.specs.Prelude.{[], ◌∷◌, None, true, false, codes}
use Rattle.qc_terms.specs.declared.term.Dest.TheVariants.{Pc}
use Rattle.qc_terms.specs.declared.term.Term.TheVariants as term
use Rattle.qc_descr.specs.declared.coding.Bit.TheVariants.{Fixed, Piece}
use Rattle.qc_descr.specs.declared.coding.Coding.{Coding}
use Rattle.qc_descr.specs.declared.coding.Reach.TheVariants.{Relative}
use Rattle.qc_descr.specs.declared.description.Instruction.{Instruction}
use Rattle.qc_descr.specs.declared.description.OperandKind.TheVariants.{Addr}

abbrev pub branch_coding : Coding
branch_coding = record {
  tokens = 8 ∷ [];
  bits = Fixed true ∷ Fixed false ∷ Fixed true ∷ Fixed false ∷ Piece 0 2 ∷ Piece 0 3 ∷ Piece 0 4 ∷ Piece 0 5 ∷ [];
  reaches = Relative 6 ∷ [];
}

abbrev pub branch : Instruction
branch = record {
  name = codes "b";
  operands = (codes "t", Addr) ∷ [];
  rtl = record { effects = record { guard = None; to = Pc; value = term.Imm 0 16 } ∷ [] };
  coding = branch_coding;
}
