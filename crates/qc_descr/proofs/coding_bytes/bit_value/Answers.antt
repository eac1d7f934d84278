use Rattle.std.proofs.Common.{◌<◌, ◌^◌, sym, arith, slice_index}
use Rattle.std.proofs.lemmas.Nat.Bits.{bit_at_above}
use Rattle.qc_descr.proofs.coding_bytes.bit_value.Goals as goal

pub returns-in_default-clause-value : goal.returns-in_default-clause-value
returns-in_default-clause-value c =
    let fits : slice_index c.args.operands.now c.in-Piece.operand < 2 ^ 64 = omega (arith, c.type_inv.operands c.in-Piece.operand) in
    rw c.in-Piece.is (sym (bit_at_above (slice_index c.args.operands.now c.in-Piece.operand) 64 c.in-Piece.bit fits c.if-bit-lt64.false))
