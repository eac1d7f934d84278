use Rattle.std.proofs.Common.{[]}
use Rattle.qc_sled.proofs.reader.SledWordsVocabulary.is_word.Goals as goal

pub returns : goal.returns
returns c = c.is_reserved.ensures []
