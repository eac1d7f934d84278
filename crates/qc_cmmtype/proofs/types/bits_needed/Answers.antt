use Rattle.std.proofs.Common.{◌≡◌, ◌-◌, ◌∙◌, ap, arith}
use Rattle.qc_cmmtype.specs.Types.{halvings}
use Rattle.qc_cmmtype.proofs.Halvings.{halvings-all}
use Rattle.qc_cmmtype.proofs.types.bits_needed.Goals as goal

pub returns : goal.returns
returns c =
    let e : 65 - c.loop-count.count ≡ 0 = omega arith in
    let none : halvings (65 - c.loop-count.count) c.loop-count.rest ≡ 0 =
    ap (λ most. halvings most c.loop-count.rest) e ∙ halvings-all c.loop-count.rest in
    omega (arith, none)
