use Rattle.qc_meaning.specs.Law.MachineTurns.{machine_turns_in_time}
use Rattle.qc_meaning.proofs.laws.machines_turn_in_time.Goals as goal

pub returns : goal.returns
returns c = machine_turns_in_time
