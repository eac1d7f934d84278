-- The event of a step tells the ending of the machine.
use Rattle.std.proofs.Common.{◌≡◌, ℕ, List, None, refl, sym, subst, ⊎_elim}
use Rattle.std.proofs.lemmas.Option.{get_or_from_slice_get, slice_get_within}
use Rattle.qc_terms.specs.declared.state.State.{State}
use Rattle.qc_terms.specs.declared.term.Rtl.{Rtl}
use Rattle.qc_terms.specs.Effects.{Outcome, outcome_of}
use Rattle.qc_terms.specs.Observation.{ending_of}
use Rattle.qc_terms.specs.Typing.{HasOneEvent}
use Rattle.qc_descr.specs.declared.description.Description.{Description}
use Rattle.qc_descr.specs.declared.description.Instruction.{Instruction}
use Rattle.qc_descr.specs.Step.{Steps, StepsBy, StepsFrom, address_after}
use Rattle.qc_descr.specs.Valid.{IsValid, IsValidInstruction}

abbrev TellsEnding : Outcome → Type 0
TellsEnding o = o.state.ending ≡ ending_of o.event

-- the law of register transfer lists
abbrev pub EventsTellEndings : Type 0
EventsTellEndings =
    (rtl : Rtl) (operands : List ℕ) (after : ℕ) (s : State) → HasOneEvent rtl → s.ending ≡ None → TellsEnding (outcome_of rtl operands after s)

by_instance : EventsTellEndings → (d : Description) (s : State) (o : Outcome) → IsValid d → s.ending ≡ None → StepsBy d s o → TellsEnding o
by_instance law d s o valid running by =
    let i : Instruction = by.stands.encodes.instruction in
    let is = by.stands.encodes.is in
    let «instance» : IsValidInstruction d i =
    subst (IsValidInstruction d) (get_or_from_slice_get d.instructions by.number i i is)
    (valid.instructions by.number i (slice_get_within d.instructions by.number i is)) in
    subst TellsEnding (sym by.is) (law i.rtl by.operands (address_after s by.bytes) s «instance».event running)

pub step_ending : EventsTellEndings → (d : Description) (s : State) (o : Outcome) → IsValid d → s.ending ≡ None → Steps d s o → o.state.ending ≡ ending_of o.event
step_ending law d s o valid running step =
    ⊎_elim
    (λ by. by_instance law d s o valid running by)
    (λ none. subst TellsEnding (sym none.1) refl)
    (subst (λ e. StepsFrom e d s o) running step)
