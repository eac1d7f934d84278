use Rattle.std.proofs.Common.{sym}
use Rattle.qc_text.proofs.Fronts.{front_pair, front_mark}
use Rattle.qc_text.proofs.piece.punctuation.Goals as goal

pub returns-then-begins_pair : goal.returns-then-begins_pair
returns-then-begins_pair c =
    front_pair c.args.first c.args.rest.now c.requires.some c.requires.other (sym c.if-begins_pair.ensures)

pub returns-else-begins_pair : goal.returns-else-begins_pair
returns-else-begins_pair c =
    front_mark c.args.first c.args.rest.now c.requires.some c.requires.other (sym c.if-begins_pair.ensures)
