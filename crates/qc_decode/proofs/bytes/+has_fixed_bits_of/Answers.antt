use Rattle.qc_decode.proofs.DecodedOperands.{higher_bits}
use Rattle.qc_decode.proofs.bytes.+has_fixed_bits_of.Goals as goal

pub returns-then-byte-one : goal.returns-then-byte-one
returns-then-byte-one t c = λ operands same.
    c.has_fixed_bits_of.ensures operands (higher_bits operands c.args.byte c.args.bits.now c.in-Fixed.len_at_least same)

pub returns-in-Piece : goal.returns-in-Piece
returns-in-Piece t c = λ operands same.
    c.has_fixed_bits_of-in-Piece.ensures operands (higher_bits operands c.args.byte c.args.bits.now c.in-Piece.len_at_least same)
