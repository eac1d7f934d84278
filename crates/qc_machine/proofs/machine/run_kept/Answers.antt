use Rattle.std.proofs.Common.{◌≡◌, ◌∙◌, Some, ap, sym, subst}
use Rattle.std.specs.List.{slice_get}
use Rattle.qc_terms.specs.declared.state.State.{State}
use Rattle.qc_terms.specs.Effects.{Outcome, outcome_of}
use Rattle.qc_descr.specs.Description.{AreInRange, kinds_of}
use Rattle.qc_flat.specs.Flat.{outcome_of_flat}
use Rattle.qc_machine.proofs.Instances.{range_read, same_read}
use Rattle.qc_machine.proofs.Kept.{flat_outcome, kept_machine, kept_steps}
use Rattle.qc_machine.proofs.Steps.{operands_there}
use Rattle.qc_machine.proofs.machine.run_kept.Goals as goal

pub apply_rtl-requires-clause-operands : goal.apply_rtl-requires-clause-operands
apply_rtl-requires-clause-operands c =
    let d = c.args.descr.now in
    let kept = c.args.kept.now in
    let number = kept.instance.instruction in
    let i = c.index-as_slice-number.result in
    let there = c.requires.stands.is.encodes in
    let is : slice_get d.instructions number ≡ Some i =
    same_read d c.as_slice-in-None.result.now number there.instruction i c.as_slice-in-None.ensures there.is c.index-as_slice-number.is in
    let range : AreInRange d (kinds_of i) kept.instance.operands.items =
    range_read d number kept.instance.operands.items i there.instruction is there.is there.coded.in_range in
    operands_there d c.args.state.now number i c.as_slice-operands.result.now c.requires.valid c.requires.made is
    (subst (AreInRange d (kinds_of i)) (sym c.as_slice-operands.ensures) range)

pub returns-in-Some-clause-step : goal.returns-in-Some-clause-step
returns-in-Some-clause-step c =
    let d = c.args.descr.now in
    let s = c.args.state.now in
    let kept = c.args.kept.now in
    let there = c.requires.stands.is.encodes in
    let o : Outcome = record { state = c.run_flat.new.state; event = c.run_flat.result } in
    let ran : o ≡ outcome_of_flat c.as_slice.result.now kept.after s =
    ap (λ (t : State). record { state = t; event = c.run_flat.result }) c.run_flat.ensures.state
    ∙ ap (λ e. record { state = (outcome_of_flat c.as_slice.result.now kept.after s).state; event = e }) c.run_flat.ensures.event in
    kept_steps d s kept there.instruction o c.requires.running c.requires.made c.requires.stands there.is
    (ran ∙ ap (λ fs. outcome_of_flat fs kept.after s) c.as_slice.ensures.value
    ∙ flat_outcome d s kept c.in-Some.flat c.requires.stands c.requires.made c.in-Some.is)

pub returns-in-Some-clause-same : goal.returns-in-Some-clause-same
returns-in-Some-clause-same c =
    let d = c.args.descr.now in
    let s = c.args.state.now in
    let kept = c.args.kept.now in
    kept_machine d s c.run_flat.new.state c.requires.stands.is.encodes.instruction.rtl kept.instance.operands.items kept.after c.requires.made
    (c.run_flat.ensures.state ∙ ap (λ fs. (outcome_of_flat fs kept.after s).state) c.as_slice.ensures.value
    ∙ ap (λ (o : Outcome). o.state) (flat_outcome d s kept c.in-Some.flat c.requires.stands c.requires.made c.in-Some.is))
    c.run_flat.ensures.context

pub returns-in-None-clause-step : goal.returns-in-None-clause-step
returns-in-None-clause-step c =
    let d = c.args.descr.now in
    let s = c.args.state.now in
    let kept = c.args.kept.now in
    let number = kept.instance.instruction in
    let i = c.index-as_slice-number.result in
    let there = c.requires.stands.is.encodes in
    let is : slice_get d.instructions number ≡ Some i =
    same_read d c.as_slice-in-None.result.now number there.instruction i c.as_slice-in-None.ensures there.is c.index-as_slice-number.is in
    let o : Outcome = record { state = c.apply_rtl.new.state; event = c.apply_rtl.result } in
    let ran : o ≡ outcome_of i.rtl c.as_slice-operands.result.now kept.after s =
    ap (λ (t : State). record { state = t; event = c.apply_rtl.result }) c.apply_rtl.ensures.state
    ∙ ap (λ e. record { state = (outcome_of i.rtl c.as_slice-operands.result.now kept.after s).state; event = e }) c.apply_rtl.ensures.event in
    kept_steps d s kept i o c.requires.running c.requires.made c.requires.stands is
    (ran ∙ ap (λ xs. outcome_of i.rtl xs kept.after s) c.as_slice-operands.ensures)

pub returns-in-None-clause-same : goal.returns-in-None-clause-same
returns-in-None-clause-same c =
    kept_machine c.args.descr.now c.args.state.now c.apply_rtl.new.state c.index-as_slice-number.result.rtl c.as_slice-operands.result.now
    c.args.kept.now.after c.requires.made c.apply_rtl.ensures.state c.apply_rtl.ensures.context
