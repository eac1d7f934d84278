use Rattle.std.specs.Prelude.{◌≡◌, ◌+◌}
use Rattle.std.proofs.Common.{sym, ap, subst, ◌∙◌}
use Rattle.std.proofs.lemmas.Result.{on_ok_weaker}
use Rattle.qc_names.specs.Tables.{entered}
use Rattle.qc_resolve.specs.Inner.Numbering.{HasFirst}
use Rattle.qc_resolve.proofs.Numbered.{first-next}
use Rattle.qc_resolve.proofs.functions.declare.Goals as goal

pub returns-in_ok-enter-in-Some : goal.returns-in_ok-enter-in-Some
returns-in_ok-enter-in-Some c =
    let numbers : c.enter.new.self ≡ entered c.args.numbers.now c.in-Some.name.now.text c.len.result =
    c.in_ok-enter-in-Some.ensures.after ∙ ap (λ n. entered c.args.numbers.now n c.len.result) c.as_slice.ensures in
    on_ok_weaker c.push.result
    (λ pushed. subst (λ es. HasFirst c.args.items.now (c.args.place + 1) c.push.new.self es) (sym numbers)
    (subst (λ ps. HasFirst c.args.items.now (c.args.place + 1) ps (entered c.args.numbers.now
    c.in-Some.name.now.text c.len.result))
    (sym pushed)
    (first-next c.args.items.now c.args.place c.args.declared.now c.args.numbers.now c.index-items-place.result
    c.in-Some.name.now c.len.result c.requires.place c.index-items-place.is c.in-Some.ensures c.len.ensures
    c.requires.first)))
    c.push.ensures.ok
