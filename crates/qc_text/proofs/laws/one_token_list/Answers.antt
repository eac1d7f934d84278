use Rattle.qc_text.proofs.Cuts.{one_token_list}
use Rattle.qc_text.proofs.laws.one_token_list.Goals as goal

pub returns : goal.returns
returns c = one_token_list
