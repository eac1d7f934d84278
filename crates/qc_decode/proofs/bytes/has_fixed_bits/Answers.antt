use Rattle.std.proofs.Common.{◌∙◌, ap, sym, get_or}
use Rattle.std.proofs.lemmas.Bool.{both_ways}
use Rattle.qc_descr.specs.Law.CodedBytes.{coded_byte}
use Rattle.qc_decode.proofs.bytes.has_fixed_bits.Goals as goal

pub returns-then-not-has_fixed_bits_of : goal.returns-then-not-has_fixed_bits_of
returns-then-not-has_fixed_bits_of c = λ operands same.
    absurd (both_ways c.has_fixed_bits_of.result c.if-not-has_fixed_bits_of.true
    (c.has_fixed_bits_of.ensures operands
    (ap (λ bytes. get_or bytes c.loop-place.place 0) same
    ∙ sym (coded_byte c.args.order c.args.coding.now operands c.loop-place.place c.memory_byte.result.now c.memory_byte.ensures.is))))
