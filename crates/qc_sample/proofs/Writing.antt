-- What is printed, piece after piece.
use Rattle.std.proofs.Common.{append_assoc}
use Rattle.qc_sample.specs.Printed.{expr_words-number, expr_words-name, expr_words-not, expr_words-call, expr_words-index, expr_words-group, statement_words-let, statement_words-print, statement_words-block, statement_words-set, statement_words-do}
use Rattle.qc_text.specs.Law.PrintedWords.{spaced-append}

pub ruleset writing = (
  expr_words-number,
  expr_words-name,
  expr_words-not,
  expr_words-call,
  expr_words-index,
  expr_words-group,
  statement_words-let,
  statement_words-print,
  statement_words-block,
  statement_words-set,
  statement_words-do,
  spaced-append,
  append_assoc,
)
