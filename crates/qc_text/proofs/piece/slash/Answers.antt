use Rattle.std.proofs.Common.{◌≡◌, ap, length, arith}
use Rattle.qc_text.proofs.Comments.{front_slash}
use Rattle.qc_text.proofs.Runs.{same_first}
use Rattle.qc_text.proofs.piece.slash.Goals as goal

pub returns-in_default : goal.returns-in_default
returns-in_default c =
    front_slash c.args.rest.now (λ b bs e. absurd (omega (arith, ap length e, c.in_default.ensures.cases)))

pub returns-in_default-second : goal.returns-in_default-second
returns-in_default-second c = front_slash c.args.rest.now (λ b bs e.
    let same : c.in-Some.second.now ≡ b =
    same_first c.args.rest.now c.in-Some.second.now b c.in-Some.more.now bs c.in-Some.ensures.cases.0 e in
    (omega (arith, same), omega (arith, same)))
