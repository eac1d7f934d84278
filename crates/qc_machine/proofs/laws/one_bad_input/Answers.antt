use Rattle.qc_machine.proofs.Inputs.{one_bad_input}
use Rattle.qc_machine.proofs.laws.one_bad_input.Goals as goal

pub returns : goal.returns
returns c = one_bad_input c.one_token_list.ensures c.one_bad_byte.ensures.one c.one_bad_byte.ensures.none
