use Rattle.std.specs.Prelude.{[], ◌∷◌, ◌++◌}
use Rattle.std.proofs.lemmas.Result.{on_ok_weaker}
use Rattle.qc_descr.specs.declared.coding.Reach.TheVariants.{Plain}
use Rattle.qc_join.proofs.Operands.{operand_more}
use Rattle.qc_join.proofs.sketches.+declare_operands.Goals as goal

pub returns-in_ok-push-in-len1-up-reaches : goal.returns-in_ok-push-in-len1-up-reaches
returns-in_ok-push-in-len1-up-reaches t c =
    let a = c.args in
    let table = c.declare_operands.new.table in
    on_ok_weaker c.declare_operands.result
    (λ declared pairs is. operand_more a.word a.spaces.now a.number a.operands.now a.reaches.now
    c.index-operands-0.result c.index-operands-0-2.result Plain c.bytes.result.now c.operand_size-size.result pairs
    table.values table.numbers c.in-len1-up.len_at_least c.in-len1-up-reaches.len_at_least c.bytes.ensures
    c.operand_size-size.ensures
    (declared (pairs ++ (c.bytes.result.now, (a.number, c.operand_size-size.result)) ∷ [])
    (c.in_ok-push-in-len1-up-reaches.ensures pairs is)))
    c.declare_operands.ensures
