use Rattle.qc_text.proofs.Comments.{front_line}
use Rattle.qc_text.proofs.piece.line_comment.Goals as goal

pub returns : goal.returns
returns c = rw c.run_length-length.ensures.value (front_line c.args.line.now)
