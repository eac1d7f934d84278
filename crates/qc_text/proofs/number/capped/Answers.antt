use Rattle.std.proofs.Common.{◌+◌, ◌*◌, ◌^◌, min, ap, ◌∙◌}
use Rattle.qc_text.proofs.Numerals.{take_digit}
use Rattle.qc_text.proofs.number.capped.Goals as goal

pub loop-digit-preserved : goal.loop-digit-preserved
loop-digit-preserved c =
    take_digit (2 ^ 64) c.args.base c.loop-digit.value c.min-value.result c.loop-digit.digit-index c.args.digits.now
    c.requires.0 c.loop-digit-test.true
    (c.min-value.ensures ∙ ap (λ d. min (2 ^ 64) (c.loop-digit.value * c.args.base + d)) c.digit_value.ensures.value)
    c.loop-digit.invariant.1
