-- The lines of children write registers alone, so that each of them goes on behind itself.
use Rattle.std.proofs.Common.{◌≡◌, ◌∙◌, ◌⊎◌, ◌+◌, ◌<◌, ◌&&◌, not, ℕ, zero, suc, List, [], ◌∷◌, ◌++◌, length, map, take, Bool, true, false, cond, Option, None, Some, IsSome, slice_get, inl, inr, refl, sym, subst, arith}
use Rattle.std.specs.List.{AllByRecursion, list_all}
use Rattle.std.proofs.lemmas.Option.{slice_get-map}
use Rattle.qc_lists.specs.Law.Lists.{each_append}
use Rattle.qc_terms.specs.declared.state.Event.{Event}
use Rattle.qc_terms.specs.declared.term.Dest.{Dest}
use Rattle.qc_terms.specs.declared.term.Dest.TheVariants as dest
use Rattle.qc_terms.specs.declared.term.Effect.{Effect}
use Rattle.qc_terms.specs.declared.term.Place.{Place}
use Rattle.qc_terms.specs.declared.term.Place.TheVariants as place
use Rattle.qc_terms.specs.Tree.{Tree}
use Rattle.qc_descr.specs.declared.description.Description.{Description}
use Rattle.qc_descr.specs.Step.{Progress}
use Rattle.qc_tiles.specs.declared.tile.Tile.{Tile}
use Rattle.qc_code.specs.declared.template.Slot.{Slot}
use Rattle.qc_code.specs.Running.{Transfer, goes_on, run_of}
use Rattle.qc_code.specs.Setting.{Line, Setting, line_rtl, rtl_of, transfer_of, transfers_from}
use Rattle.qc_code.specs.Law.Quiet.{WritesRegisters, is_register, registers_pass}
use Rattle.qc_derivations.specs.Forest.{Empty, Forest, Grow, Node, Stand, is_there}
use Rattle.qc_derivations.specs.Goals.{AsTile, InFlag, InRegister, Need, gets}
use Rattle.qc_derivations.specs.Machine.{Assignment, Machine, ToPlace, assignment_of, destination_of, form_of, machine_of}
use Rattle.qc_derivations.specs.Matching.{Pair, goal_met, meets}
use Rattle.qc_derivations.specs.Nodes.{child_needs, children_of, flag_need, flag_need_at, is_allowed, needs_of, task_of}
use Rattle.qc_derivations.specs.Rules.{flag_pair, guard_touches, is_free_destination, is_harmless, touches_input_or_memory}
use Rattle.qc_derivations.specs.declared.derivation.Leaf.{Leaf}
use Rattle.qc_derivations.specs.declared.derivation.Leaf.TheVariants as leaf
use Rattle.qc_derivations.specs.Sequence.{lines_of, node_scratches, node_slots, own_slots, scratches_of}
use Rattle.qc_derivations.specs.Valid.{AreValid}
use Rattle.qc_soundness.proofs.Children.{child_needs_hold}
use Rattle.qc_soundness.proofs.Goals.{KeepsRules, Laws, child_goal, keeps_rules-of}
use Rattle.qc_soundness.proofs.Needs.{AreRegisters}
use Rattle.qc_soundness.proofs.Optional.{and_both, map_parts, or_either}
use Rattle.qc_soundness.proofs.Patterns.{PartHolds}

-- each need is a child's
abbrev pub AreInner : List Need → Type 0
AreInner [] = Unit {0}
AreInner (InRegister v ∷ ns) = AreInner ns
AreInner (InFlag s i v ∷ ns) = AreInner ns
AreInner (AsTile a ∷ ns) = ⊥

inner_append : (ns ms : List Need) → AreRegisters ns → AreInner ms → AreInner (ns ++ ms)
inner_append [] ms one two = two
inner_append (InRegister v ∷ ns) ms one two = inner_append ns ms one two
inner_append (InFlag s i v ∷ ns) ms one two = absurd one
inner_append (AsTile a ∷ ns) ms one two = absurd one

flag_inner : (it : Option Pair) → AreInner (flag_need it)
flag_inner None = tt
flag_inner (Some x) = go x.leaf
  where
    go : (l : Leaf) → AreInner (flag_need_at l x.part)
    go (leaf.Register (place.Cell space index) width) = tt
    go (leaf.Register (place.Operand space number) width) = tt
    go (leaf.Immediate operand width) = tt
    go (leaf.Extended op operand width) = tt

trivial : (xs : List Pair) → AllByRecursion (PartHolds (λ t. Unit {0})) xs
trivial [] = tt
trivial (x ∷ xs) = (tt, trivial xs)

pub needs_are_inner : (m : Machine) (node : Node) (pairs : List Pair) (inner : List Need) → needs_of m node pairs ≡ Some inner → AreInner inner
needs_are_inner m node pairs inner e =
    let it = map_parts (λ (ns : List Need). ns ++ flag_need (flag_pair m pairs)) (child_needs 0 node.stands pairs) inner e in
    subst AreInner it.2 (inner_append it.0 (flag_need (flag_pair m pairs)) (child_needs_hold (λ t. Unit {0}) 0 node.stands pairs it.0 (trivial pairs) it.1).1 (flag_inner (flag_pair m pairs)))

-- what a child's instruction may write are registers
allowed_registers : (m : Machine) (stands : List Stand) (to : Place) (u : Tree) (es : List Effect) → list_all (is_allowed m false stands (gets (ToPlace to) u ∷ [])) (map assignment_of es) ≡ true → WritesRegisters es
allowed_registers m stands to u [] allowed = tt
allowed_registers m stands to u (e ∷ es) allowed =
    let test : Assignment → Bool = is_allowed m false stands (gets (ToPlace to) u ∷ []) in
    let parts = and_both (test (assignment_of e)) (list_all test (map assignment_of es)) allowed in (
      go e.to (elim (or_either (is_there (goal_met false stands (gets (ToPlace to) u ∷ []) (assignment_of e))) (is_harmless m stands (assignment_of e)) parts.0) [
        | inl there ↦ inl (by (meets false stands (ToPlace to) (destination_of e.to)) there)
        | inr harmless ↦ inr (and_both (is_free_destination m stands (destination_of e.to)) (not (guard_touches (assignment_of e).guard) && not (touches_input_or_memory (assignment_of e).value)) harmless).0
      ]),
      allowed_registers m stands to u es parts.1,
    )
  where
    by : (b : Bool) → is_there (cond b (Some (gets (ToPlace to) u)) None) ≡ true → b ≡ true
    by true e = refl
    by false e = absurd (cc e)

    go : (x : Dest) → (meets false stands (ToPlace to) (destination_of x) ≡ true) ⊎ (is_free_destination m stands (destination_of x) ≡ true) → is_register x ≡ true
    go (dest.Reg p) either = refl
    go (dest.Mem width address) (inl e) = absurd (cc e)
    go (dest.Mem width address) (inr e) = absurd (cc e)
    go dest.Pc (inl e) = absurd (cc e)
    go dest.Pc (inr e) = absurd (cc e)
    go dest.Out (inl e) = absurd (cc e)
    go dest.Out (inr e) = absurd (cc e)
    go dest.Halt (inl e) = absurd (cc e)
    go dest.Halt (inr e) = absurd (cc e)
    go dest.Trap (inl e) = absurd (cc e)
    go dest.Trap (inr e) = absurd (cc e)

abbrev pub IsQuietLine : Description → Line → Type 0
IsQuietLine d line = WritesRegisters (line_rtl d line).effects

node_quiet : Laws → (d : Description) (t : Tile) (bound : ℕ) (to : Place) (v : Tree) (node : Node) (inner : List Need) (slots : List Slot) →
    KeepsRules (task_of d t bound) false (gets (ToPlace to) v ∷ []) node inner → IsQuietLine d (node.instruction, slots)
node_quiet laws d t bound to v node inner slots kept =
    let goal = child_goal laws node.steps (ToPlace to) v kept.rewritten kept.is_rewritten in
    let form = map_parts form_of (slice_get d.instructions node.instruction) kept.form (sym (slice_get-map form_of d.instructions node.instruction) ∙ kept.is_form) in
    subst (λ o. WritesRegisters (rtl_of o).effects) (sym form.1)
    (allowed_registers (machine_of d) node.stands to goal.0 form.0.rtl.effects
    (subst (λ gs. list_all (is_allowed (machine_of d) false node.stands gs) (map assignment_of form.0.rtl.effects) ≡ true) goal.1
    (subst (λ f. list_all (is_allowed (machine_of d) false node.stands kept.rewritten) f.assignments ≡ true) (sym form.2) kept.allowed)))

pub forest_quiet : Laws → (d : Description) (t : Tile) (bound : ℕ) (forest : Forest) (ns : List Need) (os : List Slot) (low : ℕ) → AreValid (task_of d t bound) ns forest → AreInner ns →
    AllByRecursion (IsQuietLine d) (lines_of (machine_of d) forest os low)
forest_quiet laws d t bound Empty ns os low valid inner = tt
forest_quiet laws d t bound (Grow node children rest) [] os low valid inner = absurd valid
forest_quiet laws d t bound (Grow node children rest) (n ∷ ns) [] low valid inner = tt
forest_quiet laws d t bound (Grow node children rest) (n ∷ ns) (o ∷ os) low valid inner =
    let m : Machine = machine_of d in
    let line : Line = (node.instruction, node_slots m o low node) in
    let kept = rules n inner valid.1 in
    each_append (IsQuietLine d) (lines_of m children (own_slots o node (node_slots m o low node)) (low + node_scratches m node)) (line ∷ lines_of m rest os (low + (node_scratches m node + scratches_of m children)))
    (forest_quiet laws d t bound children valid.0 (own_slots o node (node_slots m o low node)) (low + node_scratches m node) valid.2 kept.1)
    (kept.0, forest_quiet laws d t bound rest ns os (low + (node_scratches m node + scratches_of m children)) valid.3 (later n inner))
  where
    rules : (n : Need) → AreInner (n ∷ ns) → children_of (task_of d t bound) n node ≡ Some valid.0 → IsQuietLine d (node.instruction, node_slots (machine_of d) o low node) × AreInner valid.0
    rules (InRegister v) inner e =
        let kept = keeps_rules-of (task_of d t bound) false (gets (ToPlace (place.Operand 0 0)) v ∷ []) node valid.0 e in
        (node_quiet laws d t bound (place.Operand 0 0) v node valid.0 (node_slots (machine_of d) o low node) kept, needs_are_inner (machine_of d) node kept.pairs valid.0 kept.needs)
    rules (InFlag space index v) inner e =
        let kept = keeps_rules-of (task_of d t bound) false (gets (ToPlace (place.Cell space index)) v ∷ []) node valid.0 e in
        (node_quiet laws d t bound (place.Cell space index) v node valid.0 (node_slots (machine_of d) o low node) kept, needs_are_inner (machine_of d) node kept.pairs valid.0 kept.needs)
    rules (AsTile a) inner e = absurd inner

    later : (n : Need) → AreInner (n ∷ ns) → AreInner ns
    later (InRegister v) inner = inner
    later (InFlag space index v) inner = inner
    later (AsTile a) inner = absurd inner

-- ---- going through

-- a line that writes registers alone has ended, or is at the address after it
at_next : (d : Description) (t : Tile) (e : Setting) (after : ℕ) (line : Line) (p : Progress) (ending : Option Event) → p.state.ending ≡ ending → IsQuietLine d line →
    IsSome (goes_on ending (transfer_of d t e after line) p).state.ending ⊎ ((goes_on ending (transfer_of d t e after line) p).state.pc ≡ after)
at_next d t e after line p (Some event) is are = inl (rw is refl)
at_next d t e after line p None is are =
    let x : Transfer = transfer_of d t e after line in
    elim (registers_pass x.rtl x.operands after p.state are) [
      | inl trap ↦ inl (rw (trap.1) refl)
      | inr pass ↦ inr pass.state.pc
    ]

pub quiet_through : (d : Description) (t : Tile) (e : Setting) (j : ℕ) (first : List Line) (last : Line) (p : Progress) (k : ℕ) → AllByRecursion (IsQuietLine d) first → suc k < length (first ++ (last ∷ [])) →
    IsSome (run_of (take (suc k) (transfers_from d t e j (first ++ (last ∷ [])))) p).state.ending ⊎ ((run_of (take (suc k) (transfers_from d t e j (first ++ (last ∷ [])))) p).state.pc ≡ e.next (j + k))
quiet_through d t e j [] last p k quiet below = absurd (omega (arith, below))
quiet_through d t e j (line ∷ first) last p zero quiet below =
    subst (λ n. IsSome (goes_on p.state.ending (transfer_of d t e (e.next j) line) p).state.ending ⊎ ((goes_on p.state.ending (transfer_of d t e (e.next j) line) p).state.pc ≡ e.next n))
    (let same : j ≡ j + 0 = omega arith in same)
    (at_next d t e (e.next j) line p p.state.ending refl quiet.0)
quiet_through d t e j (line ∷ first) last p (suc k) quiet below =
    let q : Progress = goes_on p.state.ending (transfer_of d t e (e.next j) line) p in
    subst (λ n. IsSome (run_of (take (suc k) (transfers_from d t e (suc j) (first ++ (last ∷ [])))) q).state.ending ⊎ ((run_of (take (suc k) (transfers_from d t e (suc j) (first ++ (last ∷ [])))) q).state.pc ≡ e.next n))
    (let same : suc j + k ≡ j + suc k = omega arith in same)
    (quiet_through d t e (suc j) first last q k quiet.1 (omega (arith, below)))
