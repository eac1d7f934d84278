use Rattle.qc_terms.proofs.Typed.{no_clash}
use Rattle.qc_terms.proofs.laws.typed_terms_have_no_clash.Goals as goal

pub returns : goal.returns
returns c = no_clash
