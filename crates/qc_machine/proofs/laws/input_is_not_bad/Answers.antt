use Rattle.qc_machine.proofs.Inputs.{not_bad}
use Rattle.qc_machine.proofs.laws.input_is_not_bad.Goals as goal

pub returns : goal.returns
returns c = not_bad c.one_token_list.ensures c.one_bad_byte.ensures.none
