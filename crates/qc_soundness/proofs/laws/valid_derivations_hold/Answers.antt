use Rattle.qc_soundness.proofs.laws.valid_derivations_hold.Goals as goal
use Rattle.qc_soundness.proofs.AllTiles.{all_hold}

pub returns : goal.returns
returns c = all_hold c.steps_keep_terms_alike.ensures.once
