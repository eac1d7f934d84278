-- What is printed, piece after piece.
use Rattle.std.proofs.Common.{append_assoc}
use Rattle.qc_lrtl.specs.Printed.{expr_words-literal, expr_words-input, expr_words-after, expr_words-mem, expr_words-zx, expr_words-sx, expr_words-slice, expr_words-name, expr_words-call, expr_words-cell}
use Rattle.qc_text.specs.Law.PrintedWords.{spaced-append}

pub ruleset writing = (
  expr_words-literal,
  expr_words-input,
  expr_words-after,
  expr_words-mem,
  expr_words-zx,
  expr_words-sx,
  expr_words-slice,
  expr_words-name,
  expr_words-call,
  expr_words-cell,
  spaced-append,
  append_assoc,
)
