use Rattle.qc_core.proofs.Completeness.{read_unless_refused}
use Rattle.qc_core.proofs.laws.read_unless_refused.Goals as goal

pub returns : goal.returns
returns c = read_unless_refused c.faultless_files_are_images.ensures c.lower_laws.ensures.tokens
