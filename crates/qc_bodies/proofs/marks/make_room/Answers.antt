use Rattle.qc_bodies.proofs.Marking.{same_push, same_trans}
use Rattle.std.proofs.Common.{subst, sym, List, Option, ℕ}
use Rattle.qc_bodies.proofs.Marking.{SameRanks}
use Rattle.qc_bodies.proofs.marks.make_room.Goals as goal

pub loop-ranks-preserved : goal.loop-ranks-preserved
loop-ranks-preserved c =
    let P : List (Option ℕ) → Type 0 = λ l. SameRanks c.args.ranks.now l in
    subst P (sym c.in_ok-push.ensures.ok) (same_trans c.args.ranks.now c.loop-ranks.ranks _ c.loop-ranks.invariant (same_push c.loop-ranks.ranks))
