use Rattle.qc_text.proofs.Spans.{of_its_kind}
use Rattle.qc_text.proofs.laws.texts_of_their_kinds.Goals as goal

pub returns : goal.returns
returns c = of_its_kind
