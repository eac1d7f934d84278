use Rattle.std.proofs.Common.{◌≡◌, ◌∙◌, Some, ap, refl, sym, subst}
use Rattle.std.specs.List.{slice_get}
use Rattle.qc_terms.specs.declared.state.State.{State}
use Rattle.qc_terms.specs.Effects.{outcome_of_trap}
use Rattle.qc_descr.specs.Description.{AreInRange, kinds_of}
use Rattle.qc_descr.specs.Step.{IsUndecodable, Steps}
use Rattle.qc_descr.specs.Machine.{IsMachineOf}
use Rattle.qc_machine.proofs.Instances.{range_read, same_read, within_read}
use Rattle.qc_machine.proofs.Steps.{facts_kept, few_there, machine_kept, operands_there, step_done, steps_trapped, typed_there}
use Rattle.qc_machine.proofs.machine.Machine.step.Goals as goal

pub returns-in_default-decode_likely-clause-step : goal.returns-in_default-decode_likely-clause-step
returns-in_default-decode_likely-clause-step c =
    let same : c.self.inside.state ≡ c.args.self.now = c.self.view_is in
    let none : IsUndecodable c.args.descr.now c.self.inside.state.memory c.self.inside.state.pc =
    subst (λ m. IsUndecodable c.args.descr.now m c.self.inside.state.pc) c.as_slice-memory.ensures (c.in_default-decode_likely.ensures.none refl) in
    rw (c.end_undecodable.ensures.state, c.end_undecodable.ensures.event)
    (subst (λ s. Steps c.args.descr.now s (outcome_of_trap 4 c.self.inside.state)) same
    (steps_trapped c.args.descr.now c.self.inside.state c.in_default.is none))

pub bounds-as_slice-instance : goal.bounds-as_slice-instance
bounds-as_slice-instance c =
    within_read c.args.descr.now c.as_slice.result.now c.in-Some-decode_likely.instance.instruction _ c.as_slice.ensures c.in-Some-decode_likely.ensures.found.encodes.is

pub apply_rtl-requires-clause-typed : goal.apply_rtl-requires-clause-typed
apply_rtl-requires-clause-typed c =
    let same : c.self.inside.state ≡ c.args.self.now = c.self.view_is in
    let made : IsMachineOf c.args.descr.now c.self.inside.state = subst (IsMachineOf c.args.descr.now) (sym same) c.requires.made in
    let is : slice_get c.args.descr.now.instructions c.in-Some-decode_likely.instance.instruction ≡ Some c.index-as_slice-instance.result =
    same_read c.args.descr.now c.as_slice.result.now c.in-Some-decode_likely.instance.instruction _ c.index-as_slice-instance.result c.as_slice.ensures c.in-Some-decode_likely.ensures.found.encodes.is c.index-as_slice-instance.is in
    typed_there c.args.descr.now c.self.inside.state c.in-Some-decode_likely.instance.instruction c.index-as_slice-instance.result c.requires.valid made is

pub apply_rtl-requires-clause-few : goal.apply_rtl-requires-clause-few
apply_rtl-requires-clause-few c =
    let is : slice_get c.args.descr.now.instructions c.in-Some-decode_likely.instance.instruction ≡ Some c.index-as_slice-instance.result =
    same_read c.args.descr.now c.as_slice.result.now c.in-Some-decode_likely.instance.instruction _ c.index-as_slice-instance.result c.as_slice.ensures c.in-Some-decode_likely.ensures.found.encodes.is c.index-as_slice-instance.is in
    few_there c.args.descr.now c.in-Some-decode_likely.instance.instruction c.index-as_slice-instance.result c.requires.valid is

pub apply_rtl-requires-clause-operands : goal.apply_rtl-requires-clause-operands
apply_rtl-requires-clause-operands c =
    let same : c.self.inside.state ≡ c.args.self.now = c.self.view_is in
    let made : IsMachineOf c.args.descr.now c.self.inside.state = subst (IsMachineOf c.args.descr.now) (sym same) c.requires.made in
    let is : slice_get c.args.descr.now.instructions c.in-Some-decode_likely.instance.instruction ≡ Some c.index-as_slice-instance.result =
    same_read c.args.descr.now c.as_slice.result.now c.in-Some-decode_likely.instance.instruction _ c.index-as_slice-instance.result c.as_slice.ensures c.in-Some-decode_likely.ensures.found.encodes.is c.index-as_slice-instance.is in
    let range : AreInRange c.args.descr.now (kinds_of c.index-as_slice-instance.result) c.in-Some-decode_likely.instance.operands.items =
    range_read c.args.descr.now c.in-Some-decode_likely.instance.instruction c.in-Some-decode_likely.instance.operands.items c.index-as_slice-instance.result _ is c.in-Some-decode_likely.ensures.found.encodes.is c.in-Some-decode_likely.ensures.found.encodes.coded.in_range in
    operands_there c.args.descr.now c.self.inside.state c.in-Some-decode_likely.instance.instruction c.index-as_slice-instance.result c.as_slice-2.result.now
    c.requires.valid made is (subst (AreInRange c.args.descr.now (kinds_of c.index-as_slice-instance.result)) (sym c.as_slice-2.ensures) range)

pub returns-clause-step : goal.returns-clause-step
returns-clause-step c =
    let same : c.self.inside.state ≡ c.args.self.now = c.self.view_is in
    let is : slice_get c.args.descr.now.instructions c.in-Some-decode_likely.instance.instruction ≡ Some c.index-as_slice-instance.result =
    same_read c.args.descr.now c.as_slice.result.now c.in-Some-decode_likely.instance.instruction _ c.index-as_slice-instance.result c.as_slice.ensures c.in-Some-decode_likely.ensures.found.encodes.is c.index-as_slice-instance.is in
    subst (λ s. Steps c.args.descr.now s (record { state = c.apply_rtl.new.state; event = c.apply_rtl.result })) same
    (step_done c.args.descr.now c.self.inside.state c.apply_rtl.new.state c.apply_rtl.result c.in-Some-decode_likely.instance.instruction c.in-Some-decode_likely.size
    c.address_after-after.result c.as_slice-memory.result.now c.in-Some-decode_likely.instance.operands.items c.as_slice-2.result.now c.index-as_slice-instance.result
    c.in_default.is c.as_slice-memory.ensures c.in-Some-decode_likely.ensures.found c.in-Some-decode_likely.ensures.size is c.as_slice-2.ensures
    c.address_after-after.ensures.value c.apply_rtl.ensures.state c.apply_rtl.ensures.event)

pub returns-clause-kept : goal.returns-clause-kept
returns-clause-kept c =
    let same : c.self.inside.state ≡ c.args.self.now = c.self.view_is in
    let made : IsMachineOf c.args.descr.now c.self.inside.state = subst (IsMachineOf c.args.descr.now) (sym same) c.requires.made in
    machine_kept c.args.descr.now c.self.inside.state c.apply_rtl.new.state made
    (ap (λ (s : State). s.facts) c.apply_rtl.ensures.state
    ∙ facts_kept c.index-as_slice-instance.result.rtl c.as_slice-2.result.now c.address_after-after.result c.self.inside.state)
    c.apply_rtl.ensures.context
