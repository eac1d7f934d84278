use Rattle.std.proofs.Common.{ap, sym, refl, ◌∙◌, ◌≡◌, take}
use Rattle.std.proofs.Math.Seq.{take-length}
use Rattle.qc_resolve.specs.Declarations.{bound_operands, meanings_in, scope_for}
use Rattle.qc_widths.proofs.Declared.{as_many}
use Rattle.qc_widths.proofs.gather.acts_of_instruction.Goals as goal

pub returns : goal.returns
returns c =
    let facts = c.args.facts.now in
    let items = c.args.items.now in
    let ms = meanings_in facts items in
    let all : ms ≡ take c.count_functions-count.result ms =
    sym (ap (λ n. take n ms) (c.count_functions-count.ensures ∙ sym (as_many facts items)) ∙ take-length ms) in
    c.acts_of_effects.ensures (scope_for facts ms (bound_operands facts 0 c.args.operands.now))
    (record { facts = refl; functions = all; locals = refl })
