use Rattle.std.proofs.Common.{refl}
use Rattle.qc_text.proofs.Comments.{front_block, no_block}
use Rattle.qc_text.proofs.piece.block_comment.Goals as goal

pub returns-in-Some : goal.returns-in-Some
returns-in-Some c =
    let found = c.in-Some.ensures in
    front_block c.args.inner.now c.in-Some.at found.inside found.star found.slash found.first

pub returns-in-None : goal.returns-in-None
returns-in-None c = no_block c.args.inner.now (c.in-None.ensures.none refl)
