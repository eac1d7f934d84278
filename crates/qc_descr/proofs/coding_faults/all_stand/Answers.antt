use Rattle.std.proofs.Common.{◌∙◌, sym, length}
use Rattle.qc_descr.specs.CodingFaults.{bits_of_claims}
use Rattle.qc_descr.specs.Inner.Standing.{operand_is_right}
use Rattle.qc_descr.proofs.Standing.{below_fails}
use Rattle.qc_descr.proofs.coding_faults.all_stand.Goals as goal

pub returns-then-not-operand_stands : goal.returns-then-not-operand_stands
returns-then-not-operand_stands c =
    sym (below_fails (operand_is_right c.args.sizes.now c.args.dropped.now (bits_of_claims c.args.claims.now))
    (length c.args.sizes.now) c.loop-operand.operand c.loop-operand-test.true
    (sym c.operand_stands.ensures ∙ c.if-not-operand_stands.true))
