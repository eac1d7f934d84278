use Rattle.std.proofs.Common.{◌+◌, ◌-◌, ◌∙◌, sym, arith}
use Rattle.qc_join.proofs.Alternatives.{piece_bits-more, piece_bits-end}
use Rattle.qc_join.proofs.alternative.piece_bits.Goals as goal

pub loop-place-preserved : goal.loop-place-preserved
loop-place-preserved c =
    let place = c.loop-place.place in
    piece_bits-more c.loop-place.bits.items c.push.new.self.items c.args.operand (c.args.from + place)
    (c.args.from + (place + 1)) (c.args.count - place) (c.args.count - (place + 1)) (omega arith)
    (omega (arith, c.loop-place-test.true)) c.in_ok-push.ensures.items
    ∙ c.loop-place.invariant

pub returns : goal.returns
returns c =
    let place = c.loop-place.place in
    c.from_vec.ensures
    ∙ sym (piece_bits-end c.loop-place.bits.items c.args.operand (c.args.from + place) (c.args.count - place)
    (omega (arith, c.loop-place-test.false)))
    ∙ c.loop-place.invariant
