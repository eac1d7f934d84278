use Rattle.std.proofs.Common.{refl}
use Rattle.qc_core.proofs.Shipped.{not_tin32, other_tin32}
use Rattle.qc_core.proofs.compiling.is_tin32.Goals as goal

pub returns-in-None : goal.returns-in-None
returns-in-None c =
    let none = rw c.in-None.is at c.in_ok-shipped.ensures.none in
    not_tin32 c.args.descr.now _ refl (λ tin32. none c.args.descr.now tin32.shipped)

pub returns : goal.returns
returns c =
    other_tin32 c.lower_laws.ensures.tokens c.args.descr.now c.in-Some.shipped _ c.same_description.result refl c.if-same_description.false (rw c.in-Some.is at c.in_ok-shipped.ensures.some) c.same_description.ensures
