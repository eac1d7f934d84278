use Rattle.std.proofs.Common.{arith}
use Rattle.qc_join.proofs.Parts.{two_or_more}
use Rattle.qc_join.proofs.expand.+expanding.Goals as goal

pub choice-returns-in_default : goal.choice-returns-in_default
choice-returns-in_default t c spec is = two_or_more spec c.args.parts.now (omega (arith, c.in_default.len_at_least))
