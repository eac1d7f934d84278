use Rattle.std.proofs.Common.{◌++◌, ◌∷◌, [], ap, ◌∙◌, subst}
use Rattle.qc_names.specs.ValueTables.{IsTableOf}
use Rattle.qc_named.specs.declared.standing.Own.TheVariants as own
use Rattle.qc_named.specs.Standing.{own_operands}
use Rattle.qc_named.proofs.Declared.{operands_past}
use Rattle.qc_named.proofs.bodies.add_operand.Goals as goal

pub returns : goal.returns
returns c = λ operands count table.
    let facts = c.args.facts.now in
    let o = c.args.operand.now in
    subst (λ l. IsTableOf l c.push.new.self.values c.push.new.self.numbers)
    (ap (λ n. own_operands facts operands ++ (n, own.Operand c.args.number c.operand.result) ∷ []) c.as_slice.ensures
    ∙ ap (λ k. own_operands facts operands ++ (o.name.text, own.Operand c.args.number k) ∷ []) c.operand.ensures
    ∙ operands_past facts operands c.args.number o count)
    (c.in_ok-push.ensures (own_operands facts operands) table)
