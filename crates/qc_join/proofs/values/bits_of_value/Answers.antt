use Rattle.std.proofs.Common.{◌≡◌, ap, sym, ◌∙◌}
use Rattle.std.proofs.lemmas.Result.{IfOk-weaker}
use Rattle.qc_names.specs.Tables.{named}
use Rattle.qc_join.specs.Expansion.{Scope, bits_of_value, whole_operand}
use Rattle.qc_join.specs.Inner.Expanding.{IsScopeOf}
use Rattle.qc_join.proofs.values.bits_of_value.Goals as goal

-- a whole operand is that of the name
pub returns-in-Operand : goal.returns-in-Operand
returns-in-Operand c =
    let count = c.args.count in
    IfOk-weaker c.whole_operand.result (λ bits. bits ≡ whole_operand c.copied.result count)
    (λ bits. (spec : Scope) → IsScopeOf c.args.scope.now spec → bits ≡ bits_of_value spec c.args.value.now count)
    (λ bits e spec is. e
    ∙ ap (λ o. whole_operand o count)
    (c.copied.ensures ∙ c.get.ensures spec.operands is.operands ∙ ap (named spec.operands) c.as_slice.ensures)
    ∙ sym (ap (λ v. bits_of_value spec v count) c.in-Operand.is))
    c.whole_operand.ensures
