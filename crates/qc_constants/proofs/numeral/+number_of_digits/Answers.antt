use Rattle.std.proofs.Common.{arith}
use Rattle.qc_constants.proofs.Numerals.{number_after_first}
use Rattle.qc_constants.proofs.numeral.+number_of_digits.Goals as goal

pub returns-in_err-tens-in-len1-up : goal.returns-in_err-tens-in-len1-up
returns-in_err-tens-in-len1-up t c =
    rw c.from_residual.ensures
    (λ small. c.in_err-tens-in-len1-up.ensures (omega (arith, number_after_first c.args.number c.args.digits.now c.in-len1-up.len_at_least)))

pub returns-in_err-next-in-len1-up : goal.returns-in_err-next-in-len1-up
returns-in_err-next-in-len1-up t c =
    rw c.from_residual-in_err-next-in-len1-up.ensures
    (λ small. c.in_err-next-in-len1-up.ensures
    (omega (arith, c.in_ok-tens-in-len1-up.ensures, c.from.ensures, number_after_first c.args.number c.args.digits.now c.in-len1-up.len_at_least)))
