use Rattle.qc_terms.specs.State.{context_of}
use Rattle.qc_flat.proofs.Effects.{flat_is}
use Rattle.qc_flat.proofs.flattening.flat_effect.Goals as goal

pub returns-clause-effect : goal.returns-clause-effect
returns-clause-effect c =
    flat_is (context_of c.args.state.now) c.args.state.now.facts.zero c.args.operands.now c.args.after c.args.effect.now _ c.requires.typed
    c.in_ok-guard.ensures.guard c.in_ok-to.ensures.dest c.in_ok-value.ensures.chain
