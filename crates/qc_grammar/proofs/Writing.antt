-- What is printed, piece after piece.
use Rattle.std.proofs.Common.{append_assoc}
use Rattle.qc_text.specs.Law.PrintedWords.{spaced-append}

pub ruleset writing = (spaced-append, append_assoc)
