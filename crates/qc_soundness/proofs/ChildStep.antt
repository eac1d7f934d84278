-- A child's line traps, or leaves the goal's value in the node's own cell and keeps the rest.
use Rattle.std.proofs.Common.{◌≡◌, ◌≢◌, ◌∙◌, ◌⊎◌, ◌+◌, ◌≤◌, ◌<◌, ℕ, List, length, map, Bool, true, false, cond, Option, None, Some, nat_eq, nat_le, slice_index, append-nil, inl, inr, refl, sym, ap, subst, arith}
use Rattle.std.proofs.lemmas.Bool.{cases_Bool}
use Rattle.qc_terms.specs.declared.state.Event.{Event}
use Rattle.qc_terms.specs.declared.state.Event.TheVariants.{Trapped}
use Rattle.qc_terms.specs.declared.state.State.{State}
use Rattle.qc_terms.specs.declared.term.Place.{Place}
use Rattle.qc_terms.specs.declared.term.Place.TheVariants as place
use Rattle.qc_terms.specs.declared.term.Rtl.{Rtl}
use Rattle.qc_terms.specs.Cells.{cell_of}
use Rattle.qc_terms.specs.Effects.{Write, after_writes, before_writes, event_of, input_is_over, outcome_of, outcome_of_event, outcome_of_trap, outcome_of_writes, rtl_has_input, writes_of}
use Rattle.qc_terms.specs.State.{context_of, is_zero_cell}
use Rattle.qc_terms.specs.Tree.{Tree, has_input}
use Rattle.qc_descr.specs.Description.{counts_of}
use Rattle.qc_descr.specs.Step.{Progress}
use Rattle.qc_code.specs.declared.template.Slot.TheVariants as slot
use Rattle.qc_code.specs.Running.{with_outcome}
use Rattle.qc_code.specs.Setting.{slot_value}
use Rattle.qc_code.specs.TileHolds.{is_flag_space}
use Rattle.qc_code.specs.Law.Operands.{row_is, state_is_wider}
use Rattle.qc_code.specs.Law.Quiet.{AreCells, KeepsRest, cells_are_quiet, cells_keep}
use Rattle.qc_derivations.specs.Same.{inputs_in}
use Rattle.qc_soundness.proofs.ChildLine.{IsFree, LineWrites, own_index, own_space}
use Rattle.qc_soundness.proofs.LeafValues.{NodeLine, line_high, line_operands}
use Rattle.qc_soundness.proofs.Optional.{eq_test}
use Rattle.qc_soundness.proofs.Patterns.{inputs_met, inputs_none, value_at}
use Rattle.qc_soundness.proofs.Scene.{IsBeyond, IsOuter, IsScene, Scene, allocatable_no_flag, at_front, no_zero_flag, no_zero_scratch}
use Rattle.qc_soundness.proofs.Writes.{AreKept, IsOwn, IsSpared, SetsOne, has_cell, sets_are_cells, sets_one}

-- ---- the own cell

-- the node's own cell is a scratch of a lower number, or a flag
abbrev pub IsTarget : Scene → NodeLine → Place → Type 0
IsTarget c l (place.Operand space number) = (k : ℕ) × (l.own ≡ slot.Scratch k) × (k < l.scratch)
IsTarget c l (place.Cell space index) = (is_flag_space c.d space ≡ true) × (index < slice_index (counts_of c.d) space)

abbrev pub IsOwnScratch : NodeLine → Place → ℕ → Type 0
IsOwnScratch l (place.Operand space number) k = l.own ≡ slot.Scratch k
IsOwnScratch l (place.Cell space index) k = ⊥

-- the scratches that the line writes
abbrev pub IsTouched : Scene → NodeLine → Place → ℕ → Type 0
IsTouched c l to k = ((l.scratch ≤ k) × (k < line_high c l)) ⊎ IsOwnScratch l to k

-- two numbers are one, or they differ
pub same_or_other : (a b : ℕ) → (a ≡ b) ⊎ (a ≢ b)
same_or_other a b = elim (cases_Bool (nat_eq a b)) [
  | inl e ↦ inl (grind (arith, e))
  | inr e ↦ inr (λ same. let no : true ≡ false = sym (eq_test a b same) ∙ e in cc no)
]

-- what is kept is spared by all free cells
free_spared : (c : Scene) (l : NodeLine) (to : Place) (s : State) (x y a b : ℕ) → s.facts ≡ c.d.facts → IsBeyond c (IsTouched c l to) x y →
    IsFree c l to a b → IsSpared s x y a b
free_spared c l to s x y a b facts beyond (inl zeros) = inl (ap (λ f. is_zero_cell f.«zero» a b) facts ∙ zeros)
free_spared c l to s x y a b facts beyond (inr (inl flag)) =
    inr (inl (λ same. let no : true ≡ false = sym flag.0 ∙ ap (is_flag_space c.d) (sym same) ∙ beyond.flag in cc no))
free_spared c l to s x y a b facts beyond (inr (inr mine)) = elim (same_or_other x c.d.allocatable) [
  | inl here ↦ inr (inr (λ same. beyond.scratch here mine.1 (inl (mine.2, mine.3)) (same ∙ mine.4)))
  | inr there ↦ inr (inl (λ same. there (same ∙ mine.0)))
]

scratches_differ : (c : Scene) (j k : ℕ) → IsScene c → j < k → k < c.count → c.e.scratch j ≢ c.e.scratch k
scratches_differ c j k is less below = is.placed.setting.apart j k less below

pub own_is : (c : Scene) (l : NodeLine) (to : Place) (s : State) → IsScene c → IsTarget c l to → line_high c l ≤ c.count → l.scratch ≤ c.count → s.facts ≡ c.d.facts →
    map length s.cells ≡ (context_of c.start).counts →
    (own_index c l to < slice_index (map length s.cells) (own_space c to))
    × IsOwn (IsBeyond c (IsTouched c l to)) (IsFree c l to) s (own_space c to) (own_index c l to)
own_is c l (place.Operand p q) s is target high low facts rows =
    let k : ℕ = target.0 in
    let value : slot_value c.t c.e l.own ≡ c.e.scratch k = ap (slot_value c.t c.e) target.1 in
    let inside : own_index c l (place.Operand p q) < slice_index (map length s.cells) c.d.allocatable =
    omega (
      arith,
      (is.placed.setting.scratches_are k (omega (arith, target.2, low))).inside,
      value,
      row_is c.d c.row c.start is.placed.valid.layout.allocatable.0 is.placed.state,
      ap (λ ns. slice_index ns c.d.allocatable) rows,
    ) in (
      inside,
      record {
        there = has_cell s.cells c.d.allocatable (own_index c l (place.Operand p q)) inside;
        usual = ap (λ f. is_zero_cell f.«zero» c.d.allocatable (slot_value c.t c.e l.own)) facts ∙ ap (is_zero_cell c.d.facts.zero c.d.allocatable) value
            ∙ no_zero_scratch c k is (omega (arith, target.2, low));
        apart = λ a b beyond. elim (same_or_other a c.d.allocatable) [
          | inl here ↦ inr (λ same. beyond.scratch here k (inr target.1) (same ∙ value))
          | inr there ↦ inl there
        ];
        unfree = λ a b free. go k value target.2 a b free;
        spared = λ x y a b beyond free. free_spared c l (place.Operand p q) s x y a b facts beyond free;
      },
    )
  where
    go : (k : ℕ) → slot_value c.t c.e l.own ≡ c.e.scratch k → k < l.scratch → (a b : ℕ) → IsFree c l (place.Operand p q) a b → IsSpared s c.d.allocatable (slot_value c.t c.e l.own) a b
    go k value below a b (inl zeros) = inl (ap (λ f. is_zero_cell f.«zero» a b) facts ∙ zeros)
    go k value below a b (inr (inl flag)) = inr flag.1
    go k value below a b (inr (inr mine)) =
        inr (inr (λ same. scratches_differ c k mine.1 is (omega (arith, below, mine.2)) (omega (arith, mine.3, high)) (sym value ∙ same ∙ mine.4)))
own_is c l (place.Cell p q) s is target high low facts rows =
    let wider = state_is_wider c.d c.row c.start is.placed.valid.layout.allocatable.0 is.placed.state in
    let inside : q < slice_index (map length s.cells) p = omega (arith, target.1, wider.counts p, ap (λ ns. slice_index ns p) rows) in (
      inside,
      record {
        there = has_cell s.cells p q inside;
        usual = ap (λ f. is_zero_cell f.«zero» p q) facts ∙ no_zero_flag c.d p q is.placed.valid target.0;
        apart = λ a b beyond. inl (λ same. let no : true ≡ false = sym target.0 ∙ ap (is_flag_space c.d) (sym same) ∙ beyond.flag in cc no);
        unfree = λ a b free. go target.0 a b free;
        spared = λ x y a b beyond free. free_spared c l (place.Cell p q) s x y a b facts beyond free;
      },
    )
  where
    go : is_flag_space c.d p ≡ true → (a b : ℕ) → IsFree c l (place.Cell p q) a b → IsSpared s p q a b
    go flag a b (inl zeros) = inl (ap (λ f. is_zero_cell f.«zero» a b) facts ∙ zeros)
    go flag a b (inr (inl other)) = inr other.1
    go flag a b (inr (inr mine)) =
        inr (inl (λ same. let no : true ≡ false = sym flag ∙ ap (is_flag_space c.d) (same ∙ mine.0) ∙ allocatable_no_flag c.d is.placed.valid in cc no))

-- ---- how a run comes out

-- a goal traps with this code: the input is over, or an access is outside memory
abbrev pub Faults : Scene → ℕ → Tree → Type 0
Faults c code v =
    ((code ≡ 5) × (has_input v ≡ true) × (input_is_over c.start ≡ true)) ⊎ ((code ≡ 1) × (value_at v (at_front c) ≡ None))

pub record HasTrapped (code : ℕ) (p q : Progress) : Type 0 where
  pub ending : q.state.ending ≡ Some (Trapped code)
  pub kept : AreKept (λ space index. Unit {0}) p.state q.state
  pub taken : q.state.taken ≡ p.state.taken
  pub output : q.output ≡ p.output

pub record HasGone (c : Scene) (l : NodeLine) (to : Place) (u : Tree) (inputs : ℕ) (p q : Progress) : Type 0 where
  pub ending : q.state.ending ≡ None
  pub kept : AreKept (IsBeyond c (IsTouched c l to)) p.state q.state
  pub taken : q.state.taken ≡ p.state.taken + inputs
  pub set : value_at u (at_front c) ≡ Some (cell_of q.state.cells (own_space c to) (own_index c l to))
  pub output : q.output ≡ p.output

traps : (code : ℕ) (p : Progress) → HasTrapped code p (with_outcome p (outcome_of_trap code p.state))
traps code p = record {
  ending = refl;
  kept = record { facts = refl; widths = refl; rows = refl; cells = λ space index kept. refl; memory = refl; input = refl };
  taken = refl;
  output = append-nil p.output;
}

abbrev pub ComesTo : Scene → NodeLine → Place → Tree → ℕ → Progress → Progress → Type 0
ComesTo c l to u inputs p q =
    ((code : ℕ) × Faults c code u × HasTrapped code p q) ⊎ (HasGone c l to u inputs p q × (1 ≤ inputs → input_is_over c.start ≡ false))

-- what the child's line comes to
pub record IsStep (c : Scene) (l : NodeLine) (to : Place) (u : Tree) (p q : Progress) : Type 0 where
  pub inputs : ℕ
  pub counted : inputs_in u ≡ inputs + inputs_met l.pairs
  pub comes : ComesTo c l to u inputs p q

input_of : (t : Tree) → 1 ≤ inputs_in t → has_input t ≡ true
input_of t some = elim (cases_Bool (has_input t)) [
  | inl e ↦ e
  | inr e ↦ absurd (omega (arith, inputs_none t e, some))
]

pub child_step : (c : Scene) (l : NodeLine) (to : Place) (u : Tree) (rtl : Rtl) (after : ℕ) (p : Progress) → IsScene c → IsTarget c l to → line_high c l ≤ c.count →
    l.scratch ≤ c.count → AreKept (IsOuter c) c.start p.state → p.state.ending ≡ None → (1 ≤ inputs_in u → inputs_met l.pairs ≡ 0 → p.state.taken ≡ c.start.taken) →
    inputs_in u ≤ 1 → LineWrites c l to u rtl.effects (record { operands = line_operands c l; after = after; state = p.state }) →
    IsStep c l to u p (with_outcome p (outcome_of rtl (line_operands c l) after p.state))
child_step c l to u rtl after p is target high low kept running untaken few writes = record {
  inputs = writes.inputs;
  counted = writes.counted;
  comes = go (rtl_has_input rtl) refl (input_is_over p.state) refl;
}
  where
    over_same : 1 ≤ writes.inputs → input_is_over p.state ≡ input_is_over c.start
    over_same some =
        ap (λ xs. nat_le (length xs) p.state.taken) kept.input
        ∙ ap (λ n. nat_le (length c.start.input) n) (untaken (omega (arith, some, writes.counted)) (omega (arith, some, writes.counted, few)))

    counts : (b : Bool) → rtl_has_input rtl ≡ b → (n : ℕ) → (n + cond b 1 0) ≡ n + writes.inputs
    counts true reads n = let some = writes.takes reads in omega (arith, some, writes.counted, few)
    counts false none n = let zeros = writes.takes_none none in omega (arith, zeros)

    taken_is : (b : Bool) (n : ℕ) → cond b (n + 1) n ≡ n + cond b 1 0
    taken_is true n = refl
    taken_is false n = omega arith

    written : (b : Bool) → rtl_has_input rtl ≡ b → (1 ≤ writes.inputs → input_is_over c.start ≡ false) → (word : ℕ) (ws : List Write) → value_at u (at_front c) ≡ Some word →
        SetsOne (IsFree c l to) (own_space c to) (own_index c l to) word ws →
        ComesTo c l to u writes.inputs p (with_outcome p (outcome_of_event (event_of ws) ws b after p.state))
    written b reads more word ws is_value sets =
        let s : State = before_writes b after p.state in
        let cells : AreCells ws = sets_are_cells (IsFree c l to) (own_space c to) (own_index c l to) word ws sets in
        let own = own_is c l to s is target high low (kept.facts ∙ is.placed.state.facts) kept.rows in
        let it = sets_one (IsBeyond c (IsTouched c l to)) (IsFree c l to) s (own_space c to) (own_index c l to) word ws own.0 own.1 sets in
        let rest : KeepsRest s (after_writes ws s) = cells_keep ws s cells in
        subst (λ (event : Event). ComesTo c l to u writes.inputs p (with_outcome p (outcome_of_event event ws b after p.state)))
        (sym (cells_are_quiet ws cells))
        (inr (
          record {
            ending = rest.ending ∙ running;
            kept = record {
              facts = it.kept.facts;
              widths = it.kept.widths;
              rows = it.kept.rows;
              cells = it.kept.cells;
              memory = it.kept.memory;
              input = it.kept.input;
            };
            taken = rest.taken ∙ taken_is b p.state.taken ∙ counts b reads p.state.taken;
            set = is_value ∙ ap Some (sym it.set);
            output = append-nil p.output;
          },
          more,
        ))

    by : (b : Bool) → rtl_has_input rtl ≡ b → (1 ≤ writes.inputs → input_is_over c.start ≡ false) →
        ComesTo c l to u writes.inputs p (with_outcome p (outcome_of_writes (writes_of rtl.effects (line_operands c l) after p.state) b after p.state))
    by b reads more = elim writes.writes [
      | inl none ↦
          subst (λ (o : Option (List Write)). ComesTo c l to u writes.inputs p (with_outcome p (outcome_of_writes o b after p.state)))
          (sym none.1) (inl (1, inr (refl, none.0), traps 1 p))
      | inr some ↦
          subst (λ (o : Option (List Write)). ComesTo c l to u writes.inputs p (with_outcome p (outcome_of_writes o b after p.state)))
          (sym some.3) (written b reads more some.0 some.1 some.2 some.4)
    ]

    go : (b : Bool) → rtl_has_input rtl ≡ b → (o : Bool) → input_is_over p.state ≡ o →
        ComesTo c l to u writes.inputs p (with_outcome p (outcome_of rtl (line_operands c l) after p.state))
    go true reads true over =
        let some = writes.takes reads in
        rw (reads, over) (inl (5, inl (refl, input_of u (omega (arith, some, writes.counted)), sym (over_same some) ∙ over), traps 5 p))
    go true reads false over = rw (reads, over) (by true reads (λ some. sym (over_same some) ∙ over))
    go false reads o over =
        rw reads (by false reads (λ some. absurd (let zeros = writes.takes_none reads in omega (arith, zeros, some))))
