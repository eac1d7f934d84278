use Rattle.std.proofs.Common.{◌≡◌, ◌+◌, ◌++◌, ◌∷◌, [], List, length, take, sym, ap, ◌∙◌, subst, arith}
use Rattle.std.proofs.lemmas.List.{take_more, length-take-le}
use Rattle.qc_lrtl.specs.declared.syntax.Operand.{Operand}
use Rattle.qc_names.specs.ValueTables.{IsTableOf}
use Rattle.qc_named.specs.Standing.{own_operands}
use Rattle.qc_named.proofs.bodies.own_operands.Goals as goal

pub loop-number-preserved : goal.loop-number-preserved
loop-number-preserved c =
    let operands : List Operand = c.args.operands.now in
    let i = c.loop-number.number in
    let x = c.index-operands-number.result in
    let count : i ≡ length (take i operands) = sym (length-take-le i operands (omega arith)) in
    let next : take i operands ++ x ∷ [] ≡ take (i + 1) operands =
    ap (λ y. take i operands ++ y ∷ []) c.index-operands-number.is ∙ sym (take_more operands i x (omega arith)) in
    subst (λ l. IsTableOf (own_operands c.args.facts.now l) c.add_operand.new.found.values c.add_operand.new.found.numbers) next
    (c.in_ok-add_operand.ensures (take i operands) count c.loop-number.invariant)
