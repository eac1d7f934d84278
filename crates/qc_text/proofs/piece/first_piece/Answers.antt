use Rattle.qc_text.proofs.Cuts.{no_bytes}
use Rattle.qc_text.proofs.piece.first_piece.Goals as goal

pub returns-in_err-first : goal.returns-in_err-first
returns-in_err-first c = rw c.from_residual.ensures (no_bytes c.args.bytes.now c.in_err-first.ensures.cases)
