use Rattle.std.proofs.Common.{sym, ◌∙◌}
use Rattle.qc_widths.proofs.ItemByItem.{instruction_reported, instruction_fault_reported}
use Rattle.qc_widths.proofs.operations.instruction.Goals as goal

pub returns-in-Some-clause-fault : goal.returns-in-Some-clause-fault
returns-in-Some-clause-fault c =
    sym c.in-Some.is
    ∙ instruction_fault_reported c.kinds_fault-kinds.result c.in_ok-names.names c.instruction_fault-effects.result
    c.in_ok-limit.limit c.earlier.result c.earlier-2.result c.earlier-fault.result
    c.earlier.ensures c.earlier-2.ensures c.earlier-fault.ensures
    ∙ instruction_reported c.args.context.now c.args.number c.args.token c.args.operands.now c.args.body.now
    c.kinds_fault-kinds.result c.in_ok-names.names c.instruction_fault-effects.result c.in_ok-limit.limit
    c.kinds_fault-kinds.ensures c.in_ok-names.ensures c.instruction_fault-effects.ensures c.in_ok-limit.ensures.fault

pub returns-in_ok-operands_of-in-None-clause-fault : goal.returns-in_ok-operands_of-in-None-clause-fault
returns-in_ok-operands_of-in-None-clause-fault c =
    sym c.in-None.is
    ∙ instruction_fault_reported c.kinds_fault-kinds.result c.in_ok-names.names c.instruction_fault-effects.result
    c.in_ok-limit.limit c.earlier.result c.earlier-2.result c.earlier-fault.result
    c.earlier.ensures c.earlier-2.ensures c.earlier-fault.ensures
    ∙ instruction_reported c.args.context.now c.args.number c.args.token c.args.operands.now c.args.body.now
    c.kinds_fault-kinds.result c.in_ok-names.names c.instruction_fault-effects.result c.in_ok-limit.limit
    c.kinds_fault-kinds.ensures c.in_ok-names.ensures c.instruction_fault-effects.ensures c.in_ok-limit.ensures.fault
