use Rattle.std.proofs.Common.{refl, sym, ◌∙◌}
use Rattle.qc_constants.proofs.Numerals.{digits_of_number}
use Rattle.qc_constants.proofs.numeral.number.Goals as goal

pub returns-in-None-clause-none : goal.returns-in-None-clause-none
returns-in-None-clause-none c = λ none n rest small stops e.
    let split = c.split_digits.ensures in
    let front = digits_of_number _ _ n rest split.digits split.longest small stops (sym split.split ∙ e) in
    c.in-None.ensures.none refl n small front.0
