-- What is printed, piece after piece.
use Rattle.std.proofs.Common.{append_assoc}
use Rattle.qc_text.specs.Law.PrintedWords.{spaced-append}
use Rattle.qc_lrtl.specs.Printed.{expr_words-literal, expr_words-input, expr_words-after, expr_words-mem, expr_words-zx, expr_words-sx, expr_words-slice, expr_words-name, expr_words-call, expr_words-cell}
use Rattle.qc_tabletext.specs.Printed.{binding_words-own, binding_words-parameter, binding_words-cell, binding_words-constant, binding_words-spare, binding_words-child, derivation_words-parts}

pub ruleset writing = (
  expr_words-literal,
  expr_words-input,
  expr_words-after,
  expr_words-mem,
  expr_words-zx,
  expr_words-sx,
  expr_words-slice,
  expr_words-name,
  expr_words-call,
  expr_words-cell,
  binding_words-own,
  binding_words-parameter,
  binding_words-cell,
  binding_words-constant,
  binding_words-spare,
  binding_words-child,
  derivation_words-parts,
  spaced-append,
  append_assoc,
)
