use Rattle.qc_terms.proofs.Bytes.{load-store}
use Rattle.qc_terms.proofs.laws.stored_words_are_loaded.Goals as goal

pub returns : goal.returns
returns c = load-store
