use Rattle.std.proofs.Common.{◌%◌, ◌^◌, ◌≤◌, ◌∙◌, ap, arith, of_z}
use Rattle.std.proofs.lemmas.Int.{to_z-of_z}
use Rattle.std.specs.Int.{w128}
use Rattle.qc_words.proofs.WordLemmas.{cast_unsigned-low}
use Rattle.qc_words.proofs.operator.wrapped.Goals as goal

pub returns-clause-value : goal.returns-clause-value
returns-clause-value c =
    let within : c.args.w ≤ 128 = omega (arith, c.low_bits.ensures.width.1) in
    c.low_bits.ensures.value
    ∙ ap (λ v. v % 2 ^ c.args.w) (c.cast_unsigned.ensures ∙ ap (of_z w128) (to_z-of_z w128 c.args.z c.ranges.z))
    ∙ cast_unsigned-low c.args.w c.args.z within c.ranges.z
