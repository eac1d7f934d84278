use Rattle.qc_join.proofs.NameSets.{entered_pattern}
use Rattle.qc_join.proofs.name_faults.enter_pattern.Goals as goal

pub returns-in_ok-enter-in-Pattern : goal.returns-in_ok-enter-in-Pattern
returns-in_ok-enter-in-Pattern c =
    entered_pattern c.args.patterns.now c.enter.new.self c.as_slice.result.now c.args.item.now c.in-Pattern.token
    c.in-Pattern.name c.in-Pattern.body c.in-Pattern.is c.as_slice.ensures c.in_ok-enter-in-Pattern.ensures.after
