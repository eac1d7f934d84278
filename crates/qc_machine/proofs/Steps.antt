-- The steps of a machine.
use Rattle.std.proofs.Common.{◌≡◌, ℕ, ◌+◌, ◌%◌, ◌^◌, ◌<◌, ◌≤◌, Bool, ◌&&◌, List, [], ◌∷◌, length, take, drop, get_or, Option, Some, None, All, IfSome, refl, sym, ◌∙◌, ap, subst, arith, inl, inr}
use Rattle.std.specs.Prelude.{slice_index}
use Rattle.std.specs.List.{slice_get}
use Rattle.std.proofs.lemmas.Bool.{cases_Bool}
use Rattle.std.proofs.lemmas.Option.{get_or_from_slice_get, same_Some, slice_get_within}
use Rattle.qc_terms.specs.declared.state.Event.{Event}
use Rattle.qc_terms.specs.declared.state.Event.TheVariants.{Quiet, Out, Ended, Trapped}
use Rattle.qc_terms.specs.declared.state.Facts.{Facts}
use Rattle.qc_terms.specs.declared.state.State.{State}
use Rattle.qc_terms.specs.declared.term.Dest.{Dest}
use Rattle.qc_terms.specs.declared.term.Dest.TheVariants as dest
use Rattle.qc_terms.specs.declared.term.Place.{Place}
use Rattle.qc_terms.specs.declared.term.Place.TheVariants as place
use Rattle.qc_terms.specs.declared.term.Rtl.{Rtl}
use Rattle.qc_terms.specs.declared.term.Term.{Term}
use Rattle.qc_terms.specs.Effects.{Outcome, ToCell, ToCounter, ToHalt, ToMemory, ToOutput, ToTrap, Write, after_write, after_writes, before_writes, event_of, input_is_over, outcome_of, outcome_of_event, outcome_of_trap, outcome_of_writes, rtl_has_input, writes_of}
use Rattle.qc_terms.specs.State.{Context, context_of, is_zero_cell}
use Rattle.qc_terms.specs.Tree.{AddressAfter, Binary, Immediate, Load, NextInput, Number, Register, Tree, Unary, tree_of}
use Rattle.qc_terms.specs.Typing.{DestFits, IsTypedRtl, OperandsFit, PlaceFits, RtlFits}
use Rattle.qc_descr.specs.declared.description.Description.{Description}
use Rattle.qc_descr.specs.declared.description.Instruction.{Instruction}
use Rattle.qc_descr.specs.declared.description.OperandKind.{OperandKind}
use Rattle.qc_descr.specs.declared.description.OperandKind.TheVariants as kind
use Rattle.qc_descr.specs.Description.{AreInRange, context_of_description, kinds_of}
use Rattle.qc_descr.specs.Step.{EncodesAt, IsUndecodable, Steps, StepsBy, StepsFrom, address_after}
use Rattle.qc_descr.specs.Valid.{EffectNames, IsValid, NamesDest, NamesOperands, NamesPlace}
use Rattle.qc_descr.specs.Machine.{IsMachineOf}
use Rattle.qc_descr.specs.Law.CodedBytes.{valid_at}
use Rattle.qc_descr.specs.Law.Operands.{in_range_at, length-in_range}

-- the facts of a machine stay
facts_after_write : (w : Write) (s : State) → (after_write w s).facts ≡ s.facts
facts_after_write (ToCell space index word) s =
    elim (cases_Bool (is_zero_cell s.facts.zero space index)) [ inl e ↦ rw e refl | inr e ↦ rw e refl ]
facts_after_write (ToMemory address count word) s = refl
facts_after_write (ToCounter word) s = refl
facts_after_write (ToOutput word) s = refl
facts_after_write (ToHalt code) s = refl
facts_after_write (ToTrap code) s = refl

facts_after_writes : (ws : List Write) (s : State) → (after_writes ws s).facts ≡ s.facts
facts_after_writes [] s = refl
facts_after_writes (w ∷ ws) s = facts_after_writes ws (after_write w s) ∙ facts_after_write w s

facts_of_event : (event : Event) (ws : List Write) (takes : Bool) (after : ℕ) (s : State) →
    (outcome_of_event event ws takes after s).state.facts ≡ s.facts
facts_of_event Quiet ws takes after s = facts_after_writes ws (before_writes takes after s)
facts_of_event (Out word) ws takes after s = facts_after_writes ws (before_writes takes after s)
facts_of_event (Ended code) ws takes after s = facts_after_writes ws (before_writes takes after s)
facts_of_event (Trapped code) ws takes after s = refl

facts_of_writes : (ws : Option (List Write)) (takes : Bool) (after : ℕ) (s : State) →
    (outcome_of_writes ws takes after s).state.facts ≡ s.facts
facts_of_writes None takes after s = refl
facts_of_writes (Some ws) takes after s = facts_of_event (event_of ws) ws takes after s

pub facts_kept : (rtl : Rtl) (operands : List ℕ) (after : ℕ) (s : State) → (outcome_of rtl operands after s).state.facts ≡ s.facts
facts_kept rtl operands after s =
    elim (cases_Bool (rtl_has_input rtl && input_is_over s)) [
      | inl e ↦ rw e refl
      | inr e ↦ rw e (facts_of_writes (writes_of rtl.effects operands after s) (rtl_has_input rtl) after s)
    ]

-- the machine stays one of its description
pub machine_kept : (d : Description) (s t : State) → IsMachineOf d s → t.facts ≡ s.facts → context_of t ≡ context_of s → IsMachineOf d t
machine_kept d s t made facts context = record {
  facts = facts ∙ made.facts;
  widths = ap (λ (x : Context). x.widths) context ∙ made.widths;
  counts = ap (λ (x : Context). x.counts) context ∙ made.counts;
}

pub context_is : (d : Description) (s : State) → IsMachineOf d s → context_of_description d ≡ context_of s
context_is d s made =
    ap (λ (f : Facts). record { word = f.word; widths = (context_of_description d).widths; counts = (context_of_description d).counts }) (sym made.facts)
    ∙ ap (λ widths. record { word = s.facts.word; widths = widths; counts = (context_of_description d).counts }) (sym made.widths)
    ∙ ap (λ counts. record { word = s.facts.word; widths = s.widths; counts = counts }) (sym made.counts)

-- the operands of an instance fit what its instruction names
place_fits : (d : Description) (kinds : List OperandKind) (xs : List ℕ) (p : Place) → AreInRange d kinds xs → NamesPlace kinds p →
    PlaceFits (context_of_description d) xs p
place_fits d kinds xs (place.Cell space index) range names = tt
place_fits d kinds xs (place.Operand space number) range names = (
  omega (arith, slice_get_within kinds number (kind.Register space) names, length-in_range d kinds xs range),
  in_range_at d kinds xs number (kind.Register space) range names,
)

operands_fit : (d : Description) (kinds : List OperandKind) (xs : List ℕ) (t : Tree) → AreInRange d kinds xs → NamesOperands d.facts.word kinds t →
    OperandsFit (context_of_description d) xs t
operands_fit d kinds xs (Number value width) range names = tt
operands_fit d kinds xs (Unary op arg) range names = operands_fit d kinds xs arg range names
operands_fit d kinds xs (Binary op left right) range names =
    (operands_fit d kinds xs left range names.0, operands_fit d kinds xs right range names.1)
operands_fit d kinds xs (Register p width) range names = place_fits d kinds xs p range names
operands_fit d kinds xs (Immediate operand width) range (inl names) = (
  omega (arith, slice_get_within kinds operand (kind.Imm width) names, length-in_range d kinds xs range),
  in_range_at d kinds xs operand (kind.Imm width) range names,
)
operands_fit d kinds xs (Immediate operand width) range (inr (names, is)) = (
  omega (arith, slice_get_within kinds operand kind.Addr names, length-in_range d kinds xs range),
  subst (λ n. slice_index xs operand < 2 ^ n) (sym is) (in_range_at d kinds xs operand kind.Addr range names),
)
operands_fit d kinds xs (Load width address) range names = operands_fit d kinds xs address range names
operands_fit d kinds xs (NextInput width) range names = tt
operands_fit d kinds xs (AddressAfter width) range names = tt

guard_fits : (d : Description) (kinds : List OperandKind) (xs : List ℕ) (g : Option Term) → AreInRange d kinds xs →
    IfSome g (λ t. NamesOperands d.facts.word kinds (tree_of t)) → IfSome g (λ t. OperandsFit (context_of_description d) xs (tree_of t))
guard_fits d kinds xs None range names = tt
guard_fits d kinds xs (Some t) range names = operands_fit d kinds xs (tree_of t) range names

dest_fits : (d : Description) (kinds : List OperandKind) (xs : List ℕ) (to : Dest) → AreInRange d kinds xs → NamesDest d.facts.word kinds to →
    DestFits (context_of_description d) xs to
dest_fits d kinds xs (dest.Reg p) range names = place_fits d kinds xs p range names
dest_fits d kinds xs (dest.Mem width address) range names = operands_fit d kinds xs (tree_of address) range names
dest_fits d kinds xs dest.Pc range names = tt
dest_fits d kinds xs dest.Out range names = tt
dest_fits d kinds xs dest.Halt range names = tt
dest_fits d kinds xs dest.Trap range names = tt

rtl_fits : (d : Description) (kinds : List OperandKind) (xs : List ℕ) (rtl : Rtl) → AreInRange d kinds xs → All (EffectNames d.facts.word kinds) rtl.effects →
    RtlFits (context_of_description d) xs rtl
rtl_fits d kinds xs rtl range names = λ k e h. record {
  guard = guard_fits d kinds xs (get_or rtl.effects k e).guard range (names k e h).guard;
  value = operands_fit d kinds xs (tree_of (get_or rtl.effects k e).value) range (names k e h).value;
  to = dest_fits d kinds xs (get_or rtl.effects k e).to range (names k e h).to;
}

-- the instruction of an instance that stands at the program counter, once it was read, may be applied
pub typed_there : (d : Description) (s : State) (number : ℕ) (i : Instruction) → IsValid d → IsMachineOf d s → slice_get d.instructions number ≡ Some i →
    IsTypedRtl (context_of s) i.rtl
typed_there d s number i valid made is =
    subst (λ context. IsTypedRtl context i.rtl) (context_is d s made) (valid_at d number i valid is).typed

pub few_there : (d : Description) (number : ℕ) (i : Instruction) → IsValid d → slice_get d.instructions number ≡ Some i → length i.rtl.effects ≤ 16
few_there d number i valid is =
    subst (λ (x : Instruction). length x.rtl.effects ≤ 16) (get_or_from_slice_get d.instructions number i i is)
    (valid.limits.effects number i (slice_get_within d.instructions number i is))

pub operands_there : (d : Description) (s : State) (number : ℕ) (i : Instruction) (xs : List ℕ) → IsValid d → IsMachineOf d s →
    slice_get d.instructions number ≡ Some i → AreInRange d (kinds_of i) xs → RtlFits (context_of s) xs i.rtl
operands_there d s number i xs valid made is range =
    subst (λ context. RtlFits context xs i.rtl) (context_is d s made)
    (rtl_fits d (kinds_of i) xs i.rtl range (valid_at d number i valid is).names)

-- the steps of a machine that goes on
pub steps_by : (d : Description) (s : State) (o : Outcome) → s.ending ≡ None → StepsBy d s o → Steps d s o
steps_by d s o running step = subst (λ ending. StepsFrom ending d s o) (sym running) (inl step)

pub steps_trapped : (d : Description) (s : State) → s.ending ≡ None → IsUndecodable d s.memory s.pc → Steps d s (outcome_of_trap 4 s)
steps_trapped d s running none = subst (λ ending. StepsFrom ending d s (outcome_of_trap 4 s)) (sym running) (inr (none, refl))

-- an instance that was decoded, and what its instruction's register transfer list did
pub step_done : (d : Description) (s t : State) (event : Event) (number size after : ℕ) (memory xs operands : List ℕ) (i : Instruction) →
    s.ending ≡ None → memory ≡ s.memory → EncodesAt d memory s.pc number xs (take size (drop s.pc memory)) →
    length (take size (drop s.pc memory)) ≡ size → slice_get d.instructions number ≡ Some i → operands ≡ xs →
    after ≡ (s.pc + size) % 2 ^ s.facts.word → t ≡ (outcome_of i.rtl operands after s).state → event ≡ (outcome_of i.rtl operands after s).event →
    Steps d s (record { state = t; event = event })
step_done d s t event number size after memory xs operands i running same e count is read there state shown =
    let bytes : List ℕ = take size (drop s.pc memory) in
    let stands : EncodesAt d s.memory s.pc number xs bytes = subst (λ m. EncodesAt d m s.pc number xs bytes) same e in
    let instruction : i ≡ stands.encodes.instruction = same_Some _ _ (sym is ∙ stands.encodes.is) in
    let address : after ≡ address_after s bytes = there ∙ ap (λ n. (s.pc + n) % 2 ^ s.facts.word) (sym count) in
    let outcome : outcome_of i.rtl operands after s ≡ outcome_of stands.encodes.instruction.rtl xs (address_after s bytes) s =
    ap (λ (x : Instruction). outcome_of x.rtl operands after s) instruction
    ∙ ap (λ ys. outcome_of stands.encodes.instruction.rtl ys after s) read
    ∙ ap (λ a. outcome_of stands.encodes.instruction.rtl xs a s) address in
    steps_by d s (record { state = t; event = event }) running (record {
      number = number;
      operands = xs;
      bytes = bytes;
      stands = stands;
      is = ap (λ x. record { state = x; event = event }) state
          ∙ ap (λ x. record { state = (outcome_of i.rtl operands after s).state; event = x }) shown ∙ outcome;
    })
