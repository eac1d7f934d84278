use Rattle.std.proofs.lemmas.Option.{IfSome_then}
use Rattle.qc_flat.proofs.Chains.{unary_linked}
use Rattle.qc_flat.proofs.terms.applied_to_one.Goals as goal

pub returns-clause-chain : goal.returns-clause-chain
returns-clause-chain c =
    IfSome_then c.applied.result c.applied.ensures.chain
    (unary_linked c.args.op.now c.args.start c.args.links.items c.args.width)
