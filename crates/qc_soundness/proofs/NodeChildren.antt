-- What a child's node has of its own children, the flag's included.
use Rattle.std.proofs.Common.{◌≡◌, ◌∙◌, ◌⊎◌, ◌+◌, ◌≤◌, ◌<◌, ◌/◌, ℕ, List, [], ◌∷◌, ◌++◌, map, Bool, true, false, cond, Option, None, Some, slice_get, option_and_then, find, if◌then◌else◌, append-nil, inl, inr, refl, sym, ap, subst, arith}
use Rattle.std.specs.List.{AllByRecursion, list_all}
use Rattle.std.specs.Option.{option_map}
use Rattle.std.proofs.lemmas.Option.{same_Some}
use Rattle.qc_lists.specs.Law.Lists.{each_append}
use Rattle.qc_words.specs.Operators.{result_of}
use Rattle.qc_terms.specs.declared.state.State.{State}
use Rattle.qc_terms.specs.declared.term.Dest.{Dest}
use Rattle.qc_terms.specs.declared.term.Dest.TheVariants as dest
use Rattle.qc_terms.specs.declared.term.Effect.{Effect}
use Rattle.qc_terms.specs.declared.term.Place.{Place}
use Rattle.qc_terms.specs.declared.term.Place.TheVariants as place
use Rattle.qc_terms.specs.Cells.{cell_of}
use Rattle.qc_terms.specs.Memory.{load_of}
use Rattle.qc_terms.specs.State.{Context, is_zero_cell}
use Rattle.qc_terms.specs.Tree.{Tree, Register, has_input, tree_of, width_of}
use Rattle.qc_terms.specs.Typing.{IsTyped}
use Rattle.qc_terms.specs.Value.{read_of}
use Rattle.qc_descr.specs.Description.{context_of_description}
use Rattle.qc_code.specs.declared.template.Slot.{Slot}
use Rattle.qc_code.specs.declared.template.Slot.TheVariants as slot
use Rattle.qc_code.specs.TileHolds.{is_flag_space}
use Rattle.qc_derivations.specs.declared.derivation.Leaf.{Leaf}
use Rattle.qc_derivations.specs.declared.derivation.Leaf.TheVariants as leaf
use Rattle.qc_derivations.specs.Forest.{Stand, is_there}
use Rattle.qc_derivations.specs.Goals.{InFlag, Need, gets}
use Rattle.qc_derivations.specs.Machine.{Assignment, Machine, ToPlace, assignment_of, destination_of, machine_of}
use Rattle.qc_derivations.specs.Machine as machine
use Rattle.qc_derivations.specs.Matching.{Pair, assignment_pairs, both, destination_pairs, guard_pairs, meets, pairs_of, takes_goal}
use Rattle.qc_derivations.specs.Nodes.{agree, child_needs, flag_need, flag_need_at, is_allowed}
use Rattle.qc_derivations.specs.Rules.{flag_pair, is_flag_leaf, leaf_meets, writes_operand}
use Rattle.qc_derivations.specs.Nodes.{target_of}
use Rattle.qc_derivations.specs.Same.{inputs_in}
use Rattle.qc_derivations.specs.Sequence.{child_slots}
use Rattle.qc_soundness.proofs.Children.{AreChildren, IsTied, TiesOnce, child_needs_hold, children_are, found_holds}
use Rattle.qc_soundness.proofs.ChildStep.{Faults, IsOwnScratch, IsTarget}
use Rattle.qc_soundness.proofs.Holding.{registers_held, tie_is_met, ties_once}
use Rattle.qc_soundness.proofs.Inputs.{flag_inputs, inputs_at_most, inputs_nowhere}
use Rattle.qc_soundness.proofs.LeafValues.{AreHeld, NodeLine, Suits, line_high, line_slots}
use Rattle.qc_soundness.proofs.Leaves.{flags_same}
use Rattle.qc_soundness.proofs.Needs.{AreRegisters, HeldAll, IsEnd, NeedHolds, SomeFaults, SuitAll, end_append, held_split, inputs_needed, inputs_needed-append, suit_append}
use Rattle.qc_soundness.proofs.Optional.{both_parts, numbers, or_left, or_right}
use Rattle.qc_soundness.proofs.Patterns.{GoesToParts, LeafHolds, PartHolds, inputs_met, leaf_tree, leaves_hold, parts_hold, value_at}
use Rattle.qc_soundness.proofs.Scene.{IsGood, IsScene, Scene, at_front, good-parts, no_zero_flag}
use Rattle.qc_soundness.proofs.Single.{IsSingle, meets_it}

-- ---- faults go up

-- a part that traps has the whole trap
pub fault_up : (c : Scene) (code : ℕ) (Traps : Type 0) → GoesToParts (λ t. Faults c code t → Traps)
fault_up c code Traps = record {
  unary = λ op arg up fault. up (elim fault [
    | inl over ↦ inl over
    | inr none ↦ inr (none.0, ap (option_map (λ a. result_of op (width_of arg) a 0)) none.1)
  ]);
  left = λ op left right up fault. up (elim fault [
    | inl over ↦ inl (over.0, or_left (has_input left) (has_input right) over.1, over.2)
    | inr none ↦ inr (none.0, ap (option_and_then (λ a. option_map (λ b. result_of op (width_of left) a b) (value_at right (at_front c)))) none.1)
  ]);
  right = λ op left right up fault. up (elim fault [
    | inl over ↦ inl (over.0, or_right (has_input left) (has_input right) over.1, over.2)
    | inr none ↦ inr (
      none.0,
      ap (λ v. option_and_then (λ a. option_map (λ b. result_of op (width_of left) a b) v) (value_at left (at_front c))) none.1
          ∙ nothing (λ a b. result_of op (width_of left) a b) (value_at left (at_front c)),
    )
  ]);
  load = λ width address up fault. up (elim fault [
    | inl over ↦ inl over
    | inr none ↦ inr (none.0, ap (option_and_then (load_of c.start.facts.order c.start.memory (width / 8))) none.1)
  ]);
}
  where
    nothing : (f : ℕ → ℕ → ℕ) (o : Option ℕ) → option_and_then (λ a. option_map (λ b. f a b) None) o ≡ None
    nothing f None = refl
    nothing f (Some a) = refl

some_faults_up : (c : Scene) (code : ℕ) (Traps : ℕ → Type 0) (ns : List Need) → AllByRecursion (NeedHolds (λ t. Faults c code t → Traps code)) ns → SomeFaults c code ns → Traps code
some_faults_up c code Traps [] all fault = absurd fault
some_faults_up c code Traps (n ∷ ns) all (inl here) = all.0 here
some_faults_up c code Traps (n ∷ ns) all (inr there) = some_faults_up c code Traps ns all.1 there

-- ---- the matched effect's pairs

no_guard : (g : Option Tree) (xs : List Pair) → guard_pairs false g None ≡ Some xs → xs ≡ []
no_guard None xs e = let it : Some [] ≡ Some xs = e in let same : xs ≡ [] = cc in same
no_guard (Some g) xs e = absurd (cc e)

pub value_pairs : (stands : List Stand) (to : Place) (u : Tree) (e : Effect) (pairs : List Pair) → meets_it false stands (gets (ToPlace to) u) e ≡ true →
    assignment_pairs false (assignment_of e) (gets (ToPlace to) u) ≡ Some pairs → pairs_of false (tree_of e.value) u ≡ Some pairs
value_pairs stands to u e pairs met are = go e.to refl met
  where
    go : (x : Dest) → e.to ≡ x → meets false stands (ToPlace to) (destination_of x) ≡ true → pairs_of false (tree_of e.value) u ≡ Some pairs
    go (dest.Reg p) same met =
        let v : Tree = tree_of e.value in
        let one = both_parts (guard_pairs false (option_map tree_of e.guard) None) (both (destination_pairs false (destination_of e.to) (ToPlace to)) (pairs_of false v u)) pairs are in
        let two = both_parts (destination_pairs false (destination_of e.to) (ToPlace to)) (pairs_of false v u) one.1 one.3 in
        let first : one.0 ≡ [] = no_guard (option_map tree_of e.guard) one.0 one.2 in
        let none : two.0 ≡ [] = let it : Some [] ≡ Some two.0 = subst (λ (x : Dest). destination_pairs false (destination_of x) (ToPlace to) ≡ Some two.0) same two.2 in cc in
        two.3 ∙ ap Some (ap (λ xs. xs ++ two.1) (sym none) ∙ two.4 ∙ ap (λ xs. xs ++ one.1) (sym first) ∙ one.4)
    go (dest.Mem width address) same met = absurd (cc met)
    go dest.Pc same met = absurd (cc met)
    go dest.Out same met = absurd (cc met)
    go dest.Halt same met = absurd (cc met)
    go dest.Trap same met = absurd (cc met)

pub typed-parts : (context : Context) → GoesToParts (IsTyped context)
typed-parts context = record {
  unary = λ op arg typed. typed.2;
  left = λ op left right typed. typed.3;
  right = λ op left right typed. typed.4;
  load = λ width address typed. typed.1;
}

-- ---- the flag

found_test : (test : Pair → Bool) (xs : List Pair) (x : Pair) → find test xs ≡ Some x → test x ≡ true
found_test test [] x found = absurd (cc found)
found_test test (y ∷ ys) x found = go (test y) refl found (λ later. found_test test ys x later)
  where
    go : (b : Bool) → test y ≡ b → cond b (Some y) (find test ys) ≡ Some x → (find test ys ≡ Some x → test x ≡ true) → test x ≡ true
    go true is found deep = subst (λ z. test z ≡ true) (same_Some y x found) is
    go false is found deep = deep found

flag_leaf_is : (m : Machine) (x : Leaf) → is_flag_leaf m x ≡ true → (space : ℕ) × (index : ℕ) × (width : ℕ) × (x ≡ leaf.Register (place.Cell space index) width) × (machine.has_flags m space ≡ true)
flag_leaf_is m (leaf.Register (place.Cell space index) width) e = (space, index, width, refl, e)
flag_leaf_is m (leaf.Register (place.Operand space number) width) e = absurd (cc e)
flag_leaf_is m (leaf.Immediate operand width) e = absurd (cc e)
flag_leaf_is m (leaf.Extended op operand width) e = absurd (cc e)

-- ---- all children

pub record IsInner (c : Scene) (l : NodeLine) (IsMine : ℕ → Type 0) (Traps : ℕ → Type 0) (inner : List Need) (owns : List Slot) : Type 0 where
  pub suit : SuitAll c inner owns (line_high c l)
  pub ends : (k : ℕ) → IsEnd inner owns k → ((l.scratch ≤ k) × (k < line_high c l)) ⊎ IsMine k
  pub held : (s : State) → s.facts ≡ c.d.facts → HeldAll c inner owns s → AreHeld c l s
  pub at_most : inputs_needed inner ≤ inputs_met l.pairs
  pub at_least : inputs_needed inner ≡ 0 → inputs_met l.pairs ≡ 0
  pub good : AllByRecursion (NeedHolds (IsGood c)) inner
  pub fault : (code : ℕ) → SomeFaults c code inner → Traps code

-- the own register is a scratch only of a child in a register
tied_is_own : (c : Scene) (l : NodeLine) (to : Place) (j k : ℕ) (x : Dest) → IsTied l j → l.own ≡ slot.Scratch k → meets false l.stands (ToPlace to) (destination_of x) ≡ true →
    writes_operand j (destination_of x) ≡ true → IsOwnScratch l to k
tied_is_own c l (place.Operand a b) j k x tied own met writes = own
tied_is_own c l (place.Cell a b) j k (dest.Reg (place.Operand space number)) tied own met writes =
    let e : j ≡ number = numbers j number writes in
    absurd (let it : false ≡ true = ap (takes_goal false (place.Cell a b)) (sym (ap (slice_get l.stands) (sym e) ∙ tied.0)) ∙ met in cc it)
tied_is_own c l (place.Cell a b) j k (dest.Reg (place.Cell space index)) tied own met writes = absurd (cc writes)
tied_is_own c l (place.Cell a b) j k (dest.Mem width address) tied own met writes = absurd (cc writes)
tied_is_own c l (place.Cell a b) j k dest.Pc tied own met writes = absurd (cc writes)
tied_is_own c l (place.Cell a b) j k dest.Out tied own met writes = absurd (cc writes)
tied_is_own c l (place.Cell a b) j k dest.Halt tied own met writes = absurd (cc writes)
tied_is_own c l (place.Cell a b) j k dest.Trap tied own met writes = absurd (cc writes)

module _ (c : Scene) (is : IsScene c) (l : NodeLine) (suits : Suits c l) (IsMine : ℕ → Type 0) (Traps : ℕ → Type 0) (ties : TiesOnce c l)
    (mine : (j k : ℕ) → IsTied l j → l.own ≡ slot.Scratch k → IsMine k) (good_parts : AllByRecursion (PartHolds (IsGood c)) l.pairs)
    (typed_leaves : AllByRecursion (LeafHolds (IsTyped (context_of_description c.d))) l.pairs)
    (faults : (code : ℕ) → AllByRecursion (PartHolds (λ t. Faults c code t → Traps code)) l.pairs)
    (leaves : list_all (λ (x : Pair). leaf_meets (machine_of c.d) (target_of c.t) l.stands l.pairs x.leaf x.part) l.pairs ≡ true) (high : line_high c l ≤ c.count)
    (regs : List Need) (needs : child_needs 0 l.stands l.pairs ≡ Some regs) where
  pub inner_of : (flag : Bool) (it : Option Pair) → flag_pair (machine_of c.d) l.pairs ≡ it → agree flag (is_there it) ≡ true →
      IsInner c l IsMine Traps (regs ++ flag_need it) (child_slots l.stands (line_slots c l) ++ (if flag then l.own ∷ [] else []))
  inner_of flag found same agrees =
      go flag found same agrees children.suit touched goods.0 goods.1 at_most at_least fault
    where
      children : AreChildren c l regs (child_slots l.stands (line_slots c l)) l.scratch (line_high c l) 0
      children = children_are c l 0 l.scratch l.stands regs suits ties (omega arith) (omega arith)
          (λ j. ap (slice_get l.stands) (let plus : j ≡ 0 + j = omega arith in plus)) needs

      touched : (k : ℕ) → IsEnd regs (child_slots l.stands (line_slots c l)) k → ((l.scratch ≤ k) × (k < line_high c l)) ⊎ IsMine k
      touched k end = elim (children.ends k end) [
        | inl between ↦ inl between
        | inr tied ↦ inr (mine tied.1 k tied.3 tied.0)
      ]

      goods : AllByRecursion (NeedHolds (IsGood c)) regs × AreRegisters regs
      goods = child_needs_hold (IsGood c) 0 l.stands l.pairs regs good_parts needs

      at_most : inputs_needed regs + flag_inputs (flag_pair (machine_of c.d) l.pairs) ≤ inputs_met l.pairs
      at_most = inputs_at_most (machine_of c.d) l.stands l.pairs regs needs

      at_least : inputs_needed regs + flag_inputs (flag_pair (machine_of c.d) l.pairs) ≡ 0 → inputs_met l.pairs ≡ 0
      at_least none = inputs_nowhere (machine_of c.d) (target_of c.t) l.stands l.pairs regs needs l.pairs leaves none

      fault : (code : ℕ) → SomeFaults c code regs → Traps code
      fault code some = some_faults_up c code Traps regs (child_needs_hold (λ t. Faults c code t → Traps code) 0 l.stands l.pairs regs (faults code) needs).0 some

      go : (flag : Bool) (it : Option Pair) → flag_pair (machine_of c.d) l.pairs ≡ it → agree flag (is_there it) ≡ true → SuitAll c regs (child_slots l.stands (line_slots c l)) (line_high c l) →
          ((k : ℕ) → IsEnd regs (child_slots l.stands (line_slots c l)) k → ((l.scratch ≤ k) × (k < line_high c l)) ⊎ IsMine k) → AllByRecursion (NeedHolds (IsGood c)) regs → AreRegisters regs →
          inputs_needed regs + flag_inputs (flag_pair (machine_of c.d) l.pairs) ≤ inputs_met l.pairs →
          (inputs_needed regs + flag_inputs (flag_pair (machine_of c.d) l.pairs) ≡ 0 → inputs_met l.pairs ≡ 0) →
          ((code : ℕ) → SomeFaults c code regs → Traps code) →
          IsInner c l IsMine Traps (regs ++ flag_need it) (child_slots l.stands (line_slots c l) ++ (if flag then l.own ∷ [] else []))
      go true None same agrees suit touched goods are at_most at_least fault = absurd (cc agrees)
      go false (Some first) same agrees suit touched goods are at_most at_least fault = absurd (cc agrees)
      go false None same agrees suit touched goods are at_most at_least fault =
          subst (λ ns. IsInner c l IsMine Traps ns (child_slots l.stands (line_slots c l) ++ [])) (sym (append-nil regs))
          (subst (λ os. IsInner c l IsMine Traps regs os) (sym (append-nil (child_slots l.stands (line_slots c l))))
          (record {
            suit = suit;
            ends = touched;
            held = λ s facts held. record {
              registers = registers_held c l s regs is needs suit high held facts;
              flag = λ first found space index width is_leaf. absurd (let no : None ≡ Some first = sym same ∙ found in cc no);
            };
            at_most = let none : flag_inputs (flag_pair (machine_of c.d) l.pairs) ≡ 0 = ap flag_inputs same in omega (arith, at_most, none);
            at_least = λ none. let zeros : flag_inputs (flag_pair (machine_of c.d) l.pairs) ≡ 0 = ap flag_inputs same in at_least (omega (arith, none, zeros));
            good = goods;
            fault = fault;
          }))
      go true (Some first) same agrees suit touched goods are at_most at_least fault =
          let m : Machine = machine_of c.d in
          let owns : List Slot = child_slots l.stands (line_slots c l) in
          let cell = flag_leaf_is m first.leaf (found_test (λ (p : Pair). is_flag_leaf m p.leaf) l.pairs first same) in
          let space : ℕ = cell.0 in
          let index : ℕ = cell.1 in
          let flags : is_flag_space c.d space ≡ true = sym (flags_same c.d space) ∙ cell.4 in
          let registered : IsTyped (context_of_description c.d) (Register (place.Cell space index) cell.2) =
          subst (λ (x : Leaf). IsTyped (context_of_description c.d) (leaf_tree x)) cell.3
          (found_holds (LeafHolds (IsTyped (context_of_description c.d))) (λ (p : Pair). is_flag_leaf m p.leaf) l.pairs first typed_leaves same) in
          let part_good : IsGood c first.part =
          found_holds (PartHolds (IsGood c)) (λ (p : Pair). is_flag_leaf m p.leaf) l.pairs first good_parts same in
          let equal : flag_inputs (flag_pair m l.pairs) ≡ inputs_in first.part = ap flag_inputs same in
          let sums = inputs_needed-append regs (InFlag space index first.part ∷ []) in
          subst (λ ns. IsInner c l IsMine Traps (regs ++ ns) (owns ++ (l.own ∷ []))) (ap (λ x. flag_need_at x first.part) (sym cell.3))
          (record {
            suit = suit_append c regs owns space index first.part l.own (line_high c l) are suit flags registered.2;
            ends = λ k end. touched k (end_append regs owns space index first.part l.own c (line_high c l) k suit end);
            held = λ s facts held.
                let both = held_split c regs owns space index first.part l.own (line_high c l) s suit held in
                record {
                  registers = registers_held c l s regs is needs suit high both.0 facts;
                  flag = λ other found a b width is_leaf.
                      let one : first ≡ other = same_Some first other (sym same ∙ found) in
                      let two : leaf.Register (place.Cell space index) cell.2 ≡ leaf.Register (place.Cell a b) width = sym cell.3 ∙ ap (λ (p : Pair). p.leaf) one ∙ is_leaf in
                      let on_space : space ≡ a = cc in
                      let on_index : index ≡ b = cc in
                      let usual : is_zero_cell s.facts.zero space index ≡ false =
                      ap (λ f. is_zero_cell f.«zero» space index) facts ∙ no_zero_flag c.d space index is.placed.valid flags in
                      ap (λ (p : Pair). value_at p.part (at_front c)) (sym one) ∙ both.1 ∙ ap (λ z. Some (cond z 0 (cell_of s.cells space index))) (sym usual)
                      ∙ ap (λ n. Some (read_of s n index)) on_space ∙ ap (λ n. Some (read_of s a n)) on_index;
                };
            at_most = omega (arith, at_most, equal, sums);
            at_least = λ none. at_least (omega (arith, none, equal, sums));
            good = each_append (NeedHolds (IsGood c)) regs (InFlag space index first.part ∷ []) goods (part_good, tt);
            fault = λ code some.
                some_faults_up c code Traps (regs ++ (InFlag space index first.part ∷ []))
                (each_append (NeedHolds (λ t. Faults c code t → Traps code)) regs (InFlag space index first.part ∷ [])
                (child_needs_hold (λ t. Faults c code t → Traps code) 0 l.stands l.pairs regs (faults code) needs).0
                (found_holds (PartHolds (λ t. Faults c code t → Traps code)) (λ (p : Pair). is_flag_leaf m p.leaf) l.pairs first (faults code) same, tt)) some;
          })

-- ---- a child's

pub inner_is : (c : Scene) → IsScene c → (l : NodeLine) → Suits c l → (to : Place) → IsTarget c l to → (u : Tree) → IsGood c u → (es : List Effect) →
    l.form.assignments ≡ map assignment_of es → (it : IsSingle false l.stands (gets (ToPlace to) u) es l.pairs) →
    list_all (is_allowed (machine_of c.d) false l.stands (gets (ToPlace to) u ∷ [])) (map assignment_of es) ≡ true → IsTyped (context_of_description c.d) (tree_of it.this.value) →
    list_all (λ (x : Pair). leaf_meets (machine_of c.d) (target_of c.t) l.stands l.pairs x.leaf x.part) l.pairs ≡ true → line_high c l ≤ c.count →
    (regs : List Need) → child_needs 0 l.stands l.pairs ≡ Some regs → (flag : Bool) (found : Option Pair) → flag_pair (machine_of c.d) l.pairs ≡ found → agree flag (is_there found) ≡ true →
    IsInner c l (IsOwnScratch l to) (λ code. Faults c code u) (regs ++ flag_need found) (child_slots l.stands (line_slots c l) ++ (if flag then l.own ∷ [] else []))
inner_is c is l suits to target u good es listed it allowed typed leaves high regs needs flag found same agrees =
    let v : Tree = tree_of it.this.value in
    let ps : pairs_of false v u ≡ Some l.pairs = value_pairs l.stands to u it.this l.pairs it.this_meets it.are_pairs in
    inner_of c is l suits (IsOwnScratch l to) (λ code. Faults c code u) (ties_once c l to u es listed it allowed target)
    (λ j k tied own. tied_is_own c l to j k it.this.to tied own it.this_meets (tie_is_met c l to u es listed it allowed j tied))
    (parts_hold false (IsGood c) (good-parts c) v u l.pairs ps good)
    (leaves_hold false (IsTyped (context_of_description c.d)) (typed-parts (context_of_description c.d)) v u l.pairs ps typed)
    (λ code. parts_hold false (λ t. Faults c code t → Faults c code u) (fault_up c code (Faults c code u)) v u l.pairs ps (λ fault. fault))
    leaves high regs needs flag found same agrees
