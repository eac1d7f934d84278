use Rattle.qc_constants.proofs.Decodings.{one_decoding}
use Rattle.qc_constants.proofs.laws.one_decoding.Goals as goal

pub returns : goal.returns
returns c = one_decoding c.one_instance.ensures
