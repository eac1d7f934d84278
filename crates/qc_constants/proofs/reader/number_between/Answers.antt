use Rattle.std.proofs.Common.{refl, sym, ◌∙◌}
use Rattle.std.proofs.lemmas.List.{append_cancel_left}
use Rattle.qc_constants.proofs.Fronts.{digits_after, one_number}
use Rattle.qc_constants.proofs.reader.number_between.Goals as goal

pub returns-in_default-number-clause-none : goal.returns-in_default-number-clause-none
returns-in_default-number-clause-none c = λ none n rest small e.
    c.in_default-number.ensures.none refl n _ small (c.requires rest) (digits_after _ c.args.back.now _ _ n rest c.in-Some.ensures.some e)

pub returns-in-Some-after-clause-only : goal.returns-in-Some-after-clause-only
returns-in-Some-after-clause-only c = λ n rest small e.
    let digits = digits_after _ c.args.back.now _ _ n rest c.in-Some.ensures.some e in
    let found = c.in-Some-number.ensures.some in
    let same = one_number _ n _ _ c.in-Some-number.ensures.word small found.1 (c.requires rest) (sym found.0 ∙ digits) in
    (same.0, append_cancel_left c.args.back.now _ _ (sym c.in-Some-after.ensures.some ∙ same.1))

pub returns-in-None-clause-none : goal.returns-in-None-clause-none
returns-in-None-clause-none c = λ none n rest small e.
    let digits = digits_after _ c.args.back.now _ _ n rest c.in-Some.ensures.some e in
    let found = c.in-Some-number.ensures.some in
    let same = one_number _ n _ _ c.in-Some-number.ensures.word small found.1 (c.requires rest) (sym found.0 ∙ digits) in
    c.in-None.ensures.none refl rest same.1
