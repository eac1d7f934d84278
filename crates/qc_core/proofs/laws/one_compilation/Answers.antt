use Rattle.qc_core.proofs.Exactness.{exact_compile}
use Rattle.qc_core.proofs.laws.one_compilation.Goals as goal

pub returns : goal.returns
returns c = λ files names. (exact_compile c.lower_laws.ensures names).one files
