-- What is printed, piece after piece.
use Rattle.std.proofs.Common.{append_assoc}
use Rattle.qc_text.specs.Law.PrintedWords.{spaced-append}
use Rattle.qc_cmm.specs.Printed.{expr_words-literal, expr_words-name, expr_words-load, expr_words-unary, expr_words-binary, statement_words-goto, statement_words-return, statement_words-if, statement_words-if_else, statement_words-out, statement_words-store, statement_words-call, statement_words-assign}

pub ruleset writing = (
  expr_words-literal,
  expr_words-name,
  expr_words-load,
  expr_words-unary,
  expr_words-binary,
  statement_words-goto,
  statement_words-return,
  statement_words-if,
  statement_words-if_else,
  statement_words-out,
  statement_words-store,
  statement_words-call,
  statement_words-assign,
  spaced-append,
  append_assoc,
)
