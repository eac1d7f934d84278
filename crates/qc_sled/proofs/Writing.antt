-- What is printed, piece after piece.
use Rattle.std.proofs.Common.{append_assoc}
use Rattle.qc_sled.specs.Printed.{pattern_words-name, pattern_words-equal, pattern_words-group, pattern_words-conjunction, pattern_words-sequence, pattern_words-alternatives}
use Rattle.qc_text.specs.Law.PrintedWords.{spaced-append}

pub ruleset writing = (
  pattern_words-name,
  pattern_words-equal,
  pattern_words-group,
  pattern_words-conjunction,
  pattern_words-sequence,
  pattern_words-alternatives,
  spaced-append,
  append_assoc,
)
