use Rattle.qc_text.proofs.Fronts.{front_name}
use Rattle.qc_text.proofs.piece.name.Goals as goal

pub returns : goal.returns
returns c = rw c.run_length-length.ensures.value (front_name c.args.first c.args.rest.now c.requires)
