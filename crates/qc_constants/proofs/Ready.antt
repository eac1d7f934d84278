-- One step of a machine where an instruction of the code stands.
use Rattle.std.proofs.Common.{◌≡◌, ◌<◌, ◌^◌, ℕ, ◌+◌, List, ◌∷◌, None, Some, refl, ap, sym, subst, ◌∙◌, inl, ⊎_elim, mod-eq_of_lt}
use Rattle.qc_terms.specs.declared.state.Event.TheVariants.{Quiet, Out, Ended}
use Rattle.qc_terms.specs.declared.state.State.{State}
use Rattle.qc_terms.specs.declared.term.Place.TheVariants.{Operand}
use Rattle.qc_terms.specs.Effects.{Outcome, effect_has_input, outcome_of, writes_of_effect}
use Rattle.qc_terms.specs.Tree.{tree_of-imm, tree_of-reg}
use Rattle.qc_descr.specs.Step.{EncodesAt, OneInstance, StepsBy, StepsFrom, Steps, address_after}
use Rattle.qc_descr.specs.Encoding.{instance_bytes}
use Rattle.qc_descr.specs.Valid.{IsValid}
use Rattle.qc_descr.specs.declared.description.Description.{Description}
use Rattle.qc_constants.specs.Constants.{HasConstants, const_instruction, out_instruction, halt_instruction, register_instruction}
use Rattle.qc_constants.proofs.Codes.{Code, Load, Put, Halt, first_of, instruction_of_first, first_is, first_length}

-- a machine that goes on, and stands at the code's first instruction
pub record IsReady (d : Description) (c : Code) (s : State) : Type 0 where
  pub facts : s.facts ≡ d.facts
  pub ending : s.ending ≡ None
  pub stands : EncodesAt d s.memory s.pc (first_of c).number (first_of c).operands (instance_bytes d 0 (first_of c))
  pub room : s.pc + 8 < 2 ^ 32

-- what that instruction does
abbrev pub first_outcome : Code → State → Outcome
first_outcome c s = outcome_of (instruction_of_first c).rtl (first_of c).operands (s.pc + 8) s

-- what the instruction does, where cell 0 of the first space is this
pub outcome_load : (word cell : ℕ) (others : List ℕ) (spaces : List (List ℕ)) (rest : Code) (s : State) → s.facts.zero ≡ None → s.cells ≡ (cell ∷ others) ∷ spaces → first_outcome (Load word rest) s ≡ record { state = record s { pc = s.pc + 8; cells = (word ∷ others) ∷ spaces }; event = Quiet }
unfolding const_instruction effect_has_input writes_of_effect
outcome_load word cell others spaces rest s z e = rw (tree_of-imm 1 32, z, e) refl

pub outcome_put : (cell : ℕ) (others : List ℕ) (spaces : List (List ℕ)) (rest : Code) (s : State) → s.facts.zero ≡ None → s.cells ≡ (cell ∷ others) ∷ spaces → first_outcome (Put rest) s ≡ record { state = record s { pc = s.pc + 8 }; event = Out cell }
unfolding out_instruction register_instruction effect_has_input writes_of_effect
outcome_put cell others spaces rest s z e = rw (tree_of-reg (Operand 0 0) 32, z, e) refl

pub outcome_halt : (cell : ℕ) (others : List ℕ) (spaces : List (List ℕ)) (s : State) → s.facts.zero ≡ None → s.cells ≡ (cell ∷ others) ∷ spaces → first_outcome Halt s ≡ record { state = record s { pc = s.pc + 8; ending = Some (Ended cell) }; event = Ended cell }
unfolding halt_instruction register_instruction effect_has_input writes_of_effect
outcome_halt cell others spaces s z e = rw (tree_of-reg (Operand 0 0) 32, z, e) refl

module _ (d : Description) (valid : IsValid d) (h : HasConstants d) where
  -- the address after it doesn't wrap
  after_is : (c : Code) (s : State) → IsReady d c s → address_after s (instance_bytes d 0 (first_of c)) ≡ s.pc + 8
  after_is c s r =
      rw (r.facts, h.word, first_length d valid h c) (mod-eq_of_lt r.room)

  -- whatever instance encodes to the bytes there does what that instruction does
  same_outcome : OneInstance → (c : Code) (s : State) → IsReady d c s → (o : Outcome) → StepsBy d s o → o ≡ first_outcome c s
  same_outcome one c s r o by =
      let same = one d s.memory s.pc by.number (first_of c).number by.operands (first_of c).operands by.bytes (instance_bytes d 0 (first_of c)) valid by.stands r.stands in
      let instruction : by.stands.encodes.instruction ≡ instruction_of_first c = cc (first_is d valid h c, by.stands.encodes.is, same.0) in
      let after : address_after s by.bytes ≡ s.pc + 8 = ap (address_after s) same.2 ∙ after_is c s r in
      by.is ∙ cc (instruction, same.1, after)

  -- the machine takes this step
  pub ready_steps : (c : Code) (s : State) → IsReady d c s → Steps d s (first_outcome c s)
  ready_steps c s r =
      let instruction : instruction_of_first c ≡ r.stands.encodes.instruction = cc (first_is d valid h c, r.stands.encodes.is) in
      subst (λ e. StepsFrom e d s (first_outcome c s)) (sym r.ending) (inl (record {
        number = (first_of c).number;
        operands = (first_of c).operands;
        bytes = instance_bytes d 0 (first_of c);
        stands = r.stands;
        is = cc (instruction, after_is c s r);
      }))

  -- and no other
  pub ready_steps_so : OneInstance → (c : Code) (s : State) → IsReady d c s → (o : Outcome) → Steps d s o → o ≡ first_outcome c s
  ready_steps_so one c s r o step =
      ⊎_elim (λ by. same_outcome one c s r o by)
      (λ none. absurd (none.0 _ _ _ r.stands))
      (subst (λ e. StepsFrom e d s o) r.ending step)
