use Rattle.std.proofs.Common.{◌∙◌, ap, sym}
use Rattle.qc_terms.specs.Effects.{Outcome, after_writes}
use Rattle.qc_flat.specs.Inner.Pending.{writes_of_all}
use Rattle.qc_flat.proofs.Quiet.{quiet_outcome}
use Rattle.qc_flat.proofs.run.run_flat.Goals as goal

pub returns-clause-state : goal.returns-clause-state
returns-clause-state c =
    let s = c.args.state.now in
    let outcome = quiet_outcome c.args.effects.now c.in-Some.writes.items c.args.after s (sym c.in-Some.ensures.value) in
    c.perform_all.ensures.state ∙ ap (λ ps. after_writes (writes_of_all ps) (record s { pc = c.args.after })) c.as_slice.ensures.value
    ∙ sym (ap (λ (o : Outcome). o.state) outcome)

pub returns-clause-event : goal.returns-clause-event
returns-clause-event c =
    let outcome = quiet_outcome c.args.effects.now c.in-Some.writes.items c.args.after c.args.state.now (sym c.in-Some.ensures.value) in
    sym (ap (λ (o : Outcome). o.event) outcome)
