use Rattle.std.proofs.Common.{◌∷◌, [], List, ℕ, Option, Some, length, sym, subst, ◌∙◌, ap, arith, length-append}
use Rattle.qc_bodies.proofs.Marking.{AreOwn, own_more}
use Rattle.qc_bodies.proofs.expand.own_ranks.Goals as goal

pub loop-number-preserved : goal.loop-number-preserved
loop-number-preserved c =
    let ok = c.in_ok-push.ensures.ok in
    let P : List (Option ℕ) → Type 0 = AreOwn in
    record {
      count = ap length ok ∙ omega (arith, length-append c.loop-number.ranks (Some c.loop-number.number ∷ []), c.loop-number.invariant.count);
      own = subst P (sym ok) (own_more c.loop-number.ranks c.loop-number.number c.loop-number.invariant.count c.loop-number.invariant.own);
    }
