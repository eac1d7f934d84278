use Rattle.std.proofs.Common.{◌+◌, ◌-◌, ◌∙◌, sym, arith}
use Rattle.qc_join.proofs.Alternatives.{constant_bits-more, constant_bits-end}
use Rattle.qc_join.proofs.alternative.constant_bits.Goals as goal

pub loop-place-preserved : goal.loop-place-preserved
loop-place-preserved c =
    let place = c.loop-place._place in
    constant_bits-more c.loop-place.bits.items c.push.new.self.items (c.args.count - place)
    (c.args.count - (place + 1)) c.loop-place.rest (omega (arith, c.loop-place-test.true)) c.in_ok-push.ensures.items
    ∙ c.loop-place.invariant

pub returns : goal.returns
returns c =
    let place = c.loop-place._place in
    c.from_vec.ensures
    ∙ sym (constant_bits-end c.loop-place.bits.items (c.args.count - place) c.loop-place.rest
    (omega (arith, c.loop-place-test.false)))
    ∙ c.loop-place.invariant
