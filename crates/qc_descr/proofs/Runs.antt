-- Steps and runs have one outcome each.
use Rattle.std.proofs.Common.{◌≡◌, ℕ, zero, suc, [], ◌++◌, Option, Some, None, refl, sym, ◌∙◌, ap, subst, inl, inr}
use Rattle.qc_terms.specs.declared.state.Event.{Event}
use Rattle.qc_terms.specs.declared.state.State.{State}
use Rattle.qc_terms.specs.Effects.{Outcome, outcome_of, outcome_of_trap}
use Rattle.qc_terms.specs.Observation.{words_of}
use Rattle.qc_descr.specs.declared.description.Description.{Description}
use Rattle.qc_descr.specs.declared.description.Instruction.{Instruction}
use Rattle.qc_descr.specs.Step.{Advances, EncodesAt, Progress, RunsTo, Steps, StepsBy, StepsFrom, address_after}
use Rattle.qc_descr.specs.Valid.{IsValid}
use Rattle.qc_descr.proofs.Search.{found_instance}
use Rattle.qc_descr.proofs.Uniqueness.{one_instance, same_instruction}

same_step : (d : Description) (s : State) (o p : Outcome) → IsValid d → StepsBy d s o → StepsBy d s p → o ≡ p
same_step d s o p valid a b =
    let one : (a.number ≡ b.number) × (a.operands ≡ b.operands) × (a.bytes ≡ b.bytes) =
    one_instance d s.memory s.pc a.number b.number a.operands b.operands a.bytes b.bytes valid a.stands b.stands in
    let i : b.stands.encodes.instruction ≡ a.stands.encodes.instruction =
    same_instruction d s.memory s.pc a.number b.number a.operands b.operands a.bytes b.bytes a.stands b.stands one.0 in
    a.is
    ∙ ap (λ (x : Instruction). outcome_of x.rtl a.operands (address_after s a.bytes) s) (sym i)
    ∙ ap (λ xs. outcome_of b.stands.encodes.instruction.rtl xs (address_after s a.bytes) s) one.1
    ∙ ap (λ bytes. outcome_of b.stands.encodes.instruction.rtl b.operands (address_after s bytes) s) one.2
    ∙ sym b.is

same_from : (ending : Option Event) (d : Description) (s : State) (o p : Outcome) → IsValid d → StepsFrom ending d s o → StepsFrom ending d s p → o ≡ p
same_from (Some event) d s o p valid a b = a ∙ sym b
same_from None d s o p valid (inl a) (inl b) = same_step d s o p valid a b
same_from None d s o p valid (inl a) (inr b) = absurd (b.0 a.number a.operands a.bytes a.stands)
same_from None d s o p valid (inr a) (inl b) = absurd (a.0 b.number b.operands b.bytes b.stands)
same_from None d s o p valid (inr a) (inr b) = a.1 ∙ sym b.1

pub one_outcome : (d : Description) (s : State) (o p : Outcome) → IsValid d → Steps d s o → Steps d s p → o ≡ p
one_outcome d s o p valid a b = same_from s.ending d s o p valid a b

some_from : (ending : Option Event) (d : Description) (s : State) → (o : Outcome) × StepsFrom ending d s o
some_from (Some event) d s = (record { state = s; event = event }, refl)
some_from None d s =
    elim (found_instance d s.memory s.pc) [
      | inl found ↦
          let at : EncodesAt d s.memory s.pc found.0 found.1 found.2 = found.3 in (
            outcome_of at.encodes.instruction.rtl found.1 (address_after s found.2) s,
            inl (record { number = found.0; operands = found.1; bytes = found.2; stands = at; is = refl }),
          )
      | inr none ↦ (outcome_of_trap 4 s, inr (none, refl))
    ]

pub some_outcome : (d : Description) (s : State) → (o : Outcome) × Steps d s o
some_outcome d s = some_from s.ending d s

advances_once : (d : Description) (q p r : Progress) → IsValid d → Advances d q p → Advances d q r → p ≡ r
advances_once d q p r valid a b =
    let same : ◌≡◌ {A = Outcome} (record { state = p.state; event = a.event }) (record { state = r.state; event = b.event }) =
    one_outcome d q.state _ _ valid a.step b.step in
    let state : p.state ≡ r.state = ap (λ (o : Outcome). o.state) same in
    let event : a.event ≡ b.event = ap (λ (o : Outcome). o.event) same in
    let output : p.output ≡ r.output = a.output ∙ ap (λ e. q.output ++ words_of e) event ∙ sym b.output in
    ap (λ s. record { state = s; output = p.output }) state ∙ ap (λ w. record { state = r.state; output = w }) output

pub one_run : (d : Description) (s : State) (steps : ℕ) (p q : Progress) → IsValid d → RunsTo d s steps p → RunsTo d s steps q → p ≡ q
one_run d s zero p q valid a b = a ∙ sym b
one_run d s (suc n) p q valid a b =
    let before : a.0 ≡ b.0 = one_run d s n a.0 b.0 valid a.1 b.1 in
    advances_once d b.0 p q valid (subst (λ x. Advances d x p) before a.2) b.2

pub some_run : (d : Description) (s : State) (steps : ℕ) → (p : Progress) × RunsTo d s steps p
some_run d s zero = (record { state = s; output = [] }, refl)
some_run d s (suc n) =
    let before : (p : Progress) × RunsTo d s n p = some_run d s n in
    let next : (o : Outcome) × Steps d before.0.state o = some_outcome d before.0.state in (
      record { state = next.0.state; output = before.0.output ++ words_of next.0.event },
      (before.0, before.1, record { event = next.0.event; step = next.1; output = refl }),
    )
