use Rattle.std.proofs.Common.{◌∙◌, ap, sym}
use Rattle.qc_terms.specs.Effects.{Outcome}
use Rattle.qc_flat.proofs.Quiet.{quiet_one}
use Rattle.qc_flat.proofs.run.run_one.Goals as goal

pub returns-in-Some-clause-state : goal.returns-in-Some-clause-state
returns-in-Some-clause-state c =
    let outcome = quiet_one c.args.effect.now c.in-Some.write c.args.after c.args.state.now (sym c.in-Some.ensures.value) in
    c.perform.ensures.state ∙ sym (ap (λ (o : Outcome). o.state) outcome)

pub returns-in-Some-clause-event : goal.returns-in-Some-clause-event
returns-in-Some-clause-event c =
    let outcome = quiet_one c.args.effect.now c.in-Some.write c.args.after c.args.state.now (sym c.in-Some.ensures.value) in
    sym (ap (λ (o : Outcome). o.event) outcome)
