use Rattle.qc_text.proofs.Words.{spaced_words}
use Rattle.qc_text.proofs.laws.words_are_tokens.Goals as goal

pub returns : goal.returns
returns c = spaced_words
