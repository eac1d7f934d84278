use Rattle.std.proofs.Common.{sym}
use Rattle.qc_text.proofs.Fronts.{front_blank, no_other}
use Rattle.qc_text.proofs.piece.front_behind.Goals as goal

pub returns-then-is_blank : goal.returns-then-is_blank
returns-then-is_blank c = front_blank c.args.first c.args.rest.now (sym c.if-is_blank.ensures)

pub returns-else-is_punctuation : goal.returns-else-is_punctuation
returns-else-is_punctuation c =
    no_other c.args.first c.args.rest.now (sym c.if-is_name_start.ensures) (sym c.if-is_ascii_digit.ensures.value)
    c.if-first-eq37.false c.if-first-eq34.false c.if-first-eq47.false (sym c.if-is_blank.ensures)
    (sym c.if-is_punctuation.ensures)
