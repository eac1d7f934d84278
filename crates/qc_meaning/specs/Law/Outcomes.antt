-- Register transfer lists that are fine come to outcomes that agree but for marked words.
use Rattle.std.proofs.Common.{◌≡◌, ◌∙◌, ◌+◌, ◌&&◌, ℕ, List, length, Bool, true, false, Some, option_and_then, if◌then◌else◌, nat_le, is_some, inl, inr, refl, ap, sym, subst}
use Rattle.std.proofs.lemmas.Bool.{cases_Bool}
use Rattle.qc_terms.specs.declared.state.Event.{Event}
use Rattle.qc_terms.specs.declared.state.Event.TheVariants.{Ended, Out, Quiet, Trapped}
use Rattle.qc_terms.specs.declared.state.State.{State}
use Rattle.qc_terms.specs.declared.term.Rtl.{Rtl}
use Rattle.qc_terms.specs.Effects.{Outcome, Write, before_writes, event_of, input_is_over, outcome_of, outcome_of_event, outcome_of_trap, outcome_of_writes, rtl_has_input, writes_of}
use Rattle.qc_meaning.specs.Law.Agree.{Agree}
use Rattle.qc_meaning.specs.Fine.{AreFine, Marking, Rules, all_marks_after}
use Rattle.qc_meaning.specs.Marked.{marks_by}
use Rattle.qc_meaning.specs.Marks.{Reading}
use Rattle.qc_meaning.specs.Runs.{counter_of}
use Rattle.qc_meaning.specs.Law.Effects.{Both, all_both, same_endings}
use Rattle.qc_meaning.specs.Law.Values.{AreInside, ReadAlike}

-- both outcomes show the same, and their states agree
pub record Alike (m : Marking) (o p : Outcome) : Type 0 where
  pub event : p.event ≡ o.event
  pub agree : Agree m o.state p.state

trapped_alike : (m : Marking) (code : ℕ) (s u : State) → Agree m s u → Alike m (outcome_of_trap code s) (outcome_of_trap code u)
trapped_alike m code s u agree =
    record { event = refl; agree = same_endings m s u (Some (Trapped code)) (Some (Trapped code)) refl agree }

before_agree : (m : Marking) (takes : Bool) (a b : ℕ) (s u : State) → Agree m s u → Agree m (before_writes takes a s) (before_writes takes b u)
before_agree m takes a b s u agree = record {
  facts = agree.facts;
  widths = agree.widths;
  rows = agree.rows;
  cells = agree.cells;
  memory = agree.memory;
  bytes = agree.bytes;
  input = agree.input;
  taken = ap (λ t. if takes then t + 1 else t) agree.taken;
  ending = agree.ending;
}

event_alike : (m : Marking) (r : Reading) (q : Reading) (es_marks : Marking → Marking) (ws us : List Write) (takes : Bool) (event : Event) →
    event_of ws ≡ event → Both r ws us es_marks → Agree m r.state q.state →
    Alike (marks_by event m (es_marks m)) (outcome_of_event event ws takes r.next r.state) (outcome_of_event event us takes q.next q.state)
event_alike m r q marks ws us takes (Trapped code) is both agree = trapped_alike m code r.state q.state agree
event_alike m r q marks ws us takes Quiet is both agree = record {
  event = refl;
  agree = both.agree m (before_writes takes r.next r.state) (before_writes takes q.next q.state) (record { facts = refl; memory = refl })
      (before_agree m takes r.next q.next r.state q.state agree);
}
event_alike m r q marks ws us takes (Out word) is both agree = record {
  event = refl;
  agree = both.agree m (before_writes takes r.next r.state) (before_writes takes q.next q.state) (record { facts = refl; memory = refl })
      (before_agree m takes r.next q.next r.state q.state agree);
}
event_alike m r q marks ws us takes (Ended code) is both agree = record {
  event = refl;
  agree = both.agree m (before_writes takes r.next r.state) (before_writes takes q.next q.state) (record { facts = refl; memory = refl })
      (before_agree m takes r.next q.next r.state q.state agree);
}

-- the event of an outcome of effects, and the marks after it
abbrev pub outcome_by : Reading → Rtl → Outcome
outcome_by r rtl = outcome_of rtl r.operands r.next r.state

abbrev pub marks_with : Reading → Rtl → Marking → Marking
marks_with r rtl m = marks_by (outcome_by r rtl).event m (all_marks_after r rtl.effects m)

event_kept : (event : Event) (ws : List Write) (takes : Bool) (after : ℕ) (s : State) → (outcome_of_event event ws takes after s).event ≡ event
event_kept (Trapped code) ws takes after s = refl
event_kept Quiet ws takes after s = refl
event_kept (Out word) ws takes after s = refl
event_kept (Ended code) ws takes after s = refl

-- outcomes that are alike, by what both are
alike_by : (m n : Marking) (o p x y : Outcome) → o ≡ x → p ≡ y → Alike (marks_by x.event m n) x y → Alike (marks_by o.event m n) o p
alike_by m n o p x y first second alike =
    subst (λ z. Alike (marks_by z.event m n) z p) (sym first) (subst (Alike (marks_by x.event m n) x) (sym second) alike)

same_over : (r q : Reading) → ReadAlike r q → (takes : Bool) → (takes && input_is_over q.state) ≡ (takes && input_is_over r.state)
same_over r q alike takes =
    ap (λ input. takes && nat_le (length input) q.state.taken) alike.input
    ∙ ap (λ taken. takes && nat_le (length r.state.input) taken) alike.taken

-- the outcome where the input isn't over
unless_over : (r : Reading) (rtl : Rtl) (ws : List Write) → (rtl_has_input rtl && input_is_over r.state) ≡ false →
    writes_of rtl.effects r.operands r.next r.state ≡ Some ws →
    outcome_by r rtl ≡ outcome_of_event (event_of ws) ws (rtl_has_input rtl) r.next r.state
unless_over r rtl ws more writes =
    ap
    (λ b. if b then outcome_of_trap 5 r.state
    else outcome_of_writes (writes_of rtl.effects r.operands r.next r.state) (rtl_has_input rtl) r.next r.state) more
    ∙ ap (λ w. outcome_of_writes w (rtl_has_input rtl) r.next r.state) writes

at_the_end : (r : Reading) (rtl : Rtl) → (rtl_has_input rtl && input_is_over r.state) ≡ true → outcome_by r rtl ≡ outcome_of_trap 5 r.state
at_the_end r rtl over =
    ap
    (λ b. if b then outcome_of_trap 5 r.state
    else outcome_of_writes (writes_of rtl.effects r.operands r.next r.state) (rtl_has_input rtl) r.next r.state) over

pub outcomes_alike : (rules : Rules) (r q : Reading) → ReadAlike r q → AreInside rules (length r.state.memory) → AreInside rules (length q.state.memory) →
    (rtl : Rtl) → AreFine rules r rtl.effects → (m : Marking) → Agree m r.state q.state →
    Alike (marks_with r rtl m) (outcome_by r rtl) (outcome_by q rtl)
outcomes_alike rules r q alike inside inside_q rtl fine m agree = elim (cases_Bool (rtl_has_input rtl && input_is_over r.state)) [
  | inl over ↦
      alike_by m (all_marks_after r rtl.effects m) (outcome_by r rtl) (outcome_by q rtl) (outcome_of_trap 5 r.state) (outcome_of_trap 5 q.state)
      (at_the_end r rtl over) (at_the_end q rtl (same_over r q alike (rtl_has_input rtl) ∙ over))
      (trapped_alike m 5 r.state q.state agree)
  | inr more ↦
      let all = all_both rules r q alike inside inside_q rtl.effects fine in
      let event = event_of all.ws in
      let n = all_marks_after r rtl.effects m in
      let x = outcome_of_event event all.ws (rtl_has_input rtl) r.next r.state in
      let y = outcome_of_event event all.us (rtl_has_input rtl) q.next q.state in
      alike_by m n (outcome_by r rtl) (outcome_by q rtl) x y
      (unless_over r rtl all.ws more all.first)
      (unless_over q rtl all.us (same_over r q alike (rtl_has_input rtl) ∙ more) all.second
      ∙ ap (λ e. outcome_of_event e all.us (rtl_has_input rtl) q.next q.state) all.both.event)
      (subst (λ e. Alike (marks_by e m n) x y) (sym (event_kept event all.ws (rtl_has_input rtl) r.next r.state))
      (event_alike m r q (all_marks_after r rtl.effects) all.ws all.us (rtl_has_input rtl) event refl all.both agree))
]

-- both set the program counter, or neither does
pub jumps_alike : (rules : Rules) (r q : Reading) → ReadAlike r q → AreInside rules (length r.state.memory) → AreInside rules (length q.state.memory) →
    (rtl : Rtl) → AreFine rules r rtl.effects →
    is_some (option_and_then counter_of (writes_of rtl.effects q.operands q.next q.state))
    ≡ is_some (option_and_then counter_of (writes_of rtl.effects r.operands r.next r.state))
jumps_alike rules r q alike inside inside_q rtl fine =
    let all = all_both rules r q alike inside inside_q rtl.effects fine in
    ap (λ w. is_some (option_and_then counter_of w)) all.second
    ∙ all.both.jumps
    ∙ sym (ap (λ w. is_some (option_and_then counter_of w)) all.first)
