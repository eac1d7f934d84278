use Rattle.std.specs.Prelude.{[]}
use Rattle.std.proofs.Common.{subst}
use Rattle.qc_names.specs.ValueTables.{IsTableOf}
use Rattle.qc_join.specs.Joining.{named_operands}
use Rattle.qc_join.proofs.sketches.operands.Goals as goal

pub returns : goal.returns
returns c =
    let machine = c.args.machine.now in
    let reaches = c.args.reaches.now in
    let table = c.declare_operands.new.table in
    subst (λ word. IsTableOf (named_operands word machine.spaces 0 c.args.operation.now.operands reaches) table.values
    table.numbers) c.word_of-word.ensures
    (subst (λ spaces. IsTableOf (named_operands c.word_of-word.result spaces 0 c.args.operation.now.operands reaches)
    table.values table.numbers) c.as_slice-spaces.ensures
    (subst (λ operands. IsTableOf (named_operands c.word_of-word.result c.as_slice-spaces.result.now 0 operands reaches)
    table.values table.numbers) c.as_slice.ensures (c.in_ok-declare_operands.ensures [] c.new-table.ensures)))
