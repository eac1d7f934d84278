use Rattle.std.proofs.Common.{◌≡◌, None, refl, subst, sym}
use Rattle.qc_terms.specs.declared.state.State.{State}
use Rattle.qc_terms.specs.Effects.{outcome_of_trap}
use Rattle.qc_descr.specs.Step.{IsUndecodable, Steps}
use Rattle.qc_machine.proofs.Steps.{steps_trapped}
use Rattle.qc_machine.proofs.machine.Machine.step_new.Goals as goal

pub returns-in_default-clause-step : goal.returns-in_default-clause-step
returns-in_default-clause-step c =
    let s = c.self.inside.state in
    let running : s.ending ≡ None = subst (λ (x : State). x.ending ≡ None) (sym c.self.view_is) c.requires.running in
    let none : IsUndecodable c.args.descr.now s.memory s.pc =
    subst (λ m. IsUndecodable c.args.descr.now m s.pc) c.as_slice-memory.ensures (c.in_default.ensures.none refl) in
    rw (c.end_undecodable.ensures.state, c.end_undecodable.ensures.event)
    (subst (λ x. Steps c.args.descr.now x (outcome_of_trap 4 s)) c.self.view_is
    (steps_trapped c.args.descr.now s running none))

pub returns-clause-step : goal.returns-clause-step
returns-clause-step c =
    subst (λ x. Steps c.args.descr.now x (record { state = c.run_kept-event.new.state; event = c.run_kept-event.result })) c.self.view_is
    c.run_kept-event.ensures.step

pub returns-clause-cache : goal.returns-clause-cache
returns-clause-cache c = c.keep.ensures c.args.descr.now c.requires.cached c.kept_of-kept.ensures.is
