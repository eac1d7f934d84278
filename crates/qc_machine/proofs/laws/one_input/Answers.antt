use Rattle.qc_machine.proofs.Inputs.{one_input}
use Rattle.qc_machine.proofs.laws.one_input.Goals as goal

pub returns : goal.returns
returns c = one_input c.one_token_list.ensures
