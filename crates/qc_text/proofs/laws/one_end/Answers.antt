use Rattle.qc_text.proofs.Spans.{one_end}
use Rattle.qc_text.proofs.laws.one_end.Goals as goal

pub returns : goal.returns
returns c = one_end
