-- The writes of a child's line: its value to its own cell, or none where the goal has no value.
use Rattle.std.proofs.Common.{◌≡◌, ◌≢◌, ◌∙◌, ◌⊎◌, ◌+◌, ◌≤◌, ◌||◌, ◌&&◌, ℕ, zero, suc, List, [], ◌∷◌, ◌++◌, map, Bool, true, false, not, cond, Option, None, Some, nat_eq, slice_get, option_and_then, inl, inr, refl, sym, ap, subst, arith}
use Rattle.std.specs.Prelude.{slice_index}
use Rattle.std.specs.List.{AllByRecursion, list_all, list_any}
use Rattle.std.specs.Option.{option_map}
use Rattle.std.proofs.lemmas.Bool.{and_from, cases_Bool}
use Rattle.std.proofs.lemmas.List.{append_assoc}
use Rattle.qc_lists.specs.Law.Lists.{each_of_append}
use Rattle.qc_terms.specs.declared.state.State.{State}
use Rattle.qc_terms.specs.declared.term.Dest.{Dest}
use Rattle.qc_terms.specs.declared.term.Dest.TheVariants as dest
use Rattle.qc_terms.specs.declared.term.Effect.{Effect}
use Rattle.qc_terms.specs.declared.term.Place.{Place}
use Rattle.qc_terms.specs.declared.term.Place.TheVariants as place
use Rattle.qc_terms.specs.declared.term.Term.{Term}
use Rattle.qc_terms.specs.Effects.{ToCell, Write, effect_has_input, write_of, writes_of, writes_of_effect}
use Rattle.qc_terms.specs.Tree.{Tree, has_input, tree_of}
use Rattle.qc_terms.specs.Value.{index_of, next_input_of, space_of}
use Rattle.qc_descr.specs.declared.description.OperandKind.{OperandKind}
use Rattle.qc_descr.specs.declared.description.OperandKind.TheVariants as kind
use Rattle.qc_descr.specs.Valid.{EffectNames, NamesDest, NamesOperands, NamesPlace}
use Rattle.qc_code.specs.declared.template.Slot.TheVariants as slot
use Rattle.qc_code.specs.Setting.{slot_value}
use Rattle.qc_code.specs.TileHolds.{is_flag_space}
use Rattle.qc_derivations.specs.Forest.{Cell, Child, Constant, Own, Param, Spare, Stand}
use Rattle.qc_derivations.specs.Goals.{gets}
use Rattle.qc_derivations.specs.Machine.{Assignment, Machine, ToPlace, assignment_of, destination_of, machine_of}
use Rattle.qc_derivations.specs.Matching.{Pair, all_pairs, assignment_pairs, both, destination_pairs, guard_pairs, is_place_of, meets, pairs_of, takes_goal}
use Rattle.qc_derivations.specs.Nodes.{is_allowed, target_of}
use Rattle.qc_derivations.specs.Rules.{is_met, is_read, is_written, leaf_meets, operand_suits, writes_operand}
use Rattle.qc_derivations.specs.Same.{inputs_in, same_place}
use Rattle.qc_derivations.specs.Sequence.{slot_at}
use Rattle.qc_soundness.proofs.LeafValues.{AreHeld, NodeLine, Suits, leaf_reads, line_operands, operand_is}
use Rattle.qc_soundness.proofs.Leaves.{same_places}
use Rattle.qc_soundness.proofs.LineEffects.{IsFreeCell, WritesFree, harmless_writes}
use Rattle.qc_soundness.proofs.Optional.{and_both, both_parts, eq_test, numbers, or_neither}
use Rattle.qc_soundness.proofs.Patterns.{AreAlikeReadings, GoesToParts, IsSame, LeafHolds, PartHolds, Reading, ReadsAs, inputs_meet, inputs_met, inputs_none, inputs_some, leaves_hold, parts_hold, value_at, values_meet}
use Rattle.qc_soundness.proofs.Scene.{IsGood, IsOuter, IsScene, Scene, allocatable_no_flag, at_front, good-parts}
use Rattle.qc_soundness.proofs.Single.{Harmless, IsSingle, Misses, all_of_parts, any_of_parts, count_met, meets_it, missing_are_harmless, single}
use Rattle.qc_soundness.proofs.Writes.{AreFree, AreKept, SetsOne, free-append, sets-after_free}

-- ---- lists of effects

-- what effects write to free cells, before others
pub record AllFree (F : ℕ → ℕ → Type 0) (es : List Effect) (r : Reading) : Type 0 where
  pub writes : List Write
  pub are : writes_of es r.operands r.after r.state ≡ Some writes
  pub free : AreFree F writes
  pub quiet : list_any effect_has_input es ≡ false

pub all_free : (F : ℕ → ℕ → Type 0) (es : List Effect) (r : Reading) → AllByRecursion (λ e. WritesFree F e r) es → AllFree F es r
all_free F [] r each = record { writes = []; are = refl; free = tt; quiet = refl }
all_free F (e ∷ es) r each =
    let one : WritesFree F e r = each.0 in
    let rest : AllFree F es r = all_free F es r each.1 in
    record {
      writes = one.writes ++ rest.writes;
      are = ap (λ (o : Option (List Write)). option_and_then (λ (first : List Write). option_map (λ (more : List Write). first ++ more) (writes_of es r.operands r.after r.state)) o) one.are
          ∙ ap (λ (o : Option (List Write)). option_map (λ (more : List Write). one.writes ++ more) o) rest.are;
      free = free-append F one.writes rest.writes one.free rest.free;
      quiet = ap (λ b. b || list_any effect_has_input es) one.quiet ∙ rest.quiet;
    }

-- the writes of two lists, one after the other, where the first has these
pub writes-append : (xs ys : List Effect) (r : Reading) (ws : List Write) → writes_of xs r.operands r.after r.state ≡ Some ws →
    writes_of (xs ++ ys) r.operands r.after r.state ≡ option_map (λ more. ws ++ more) (writes_of ys r.operands r.after r.state)
writes-append [] ys r ws are = go (writes_of ys r.operands r.after r.state)
  where
    go : (o : Option (List Write)) → o ≡ option_map (λ more. ws ++ more) o
    go None = refl
    go (Some more) = ap (λ us. Some (us ++ more)) (let it : Some [] ≡ Some ws = are in let same : [] ≡ ws = cc in same)
writes-append (x ∷ xs) ys r ws are = go (writes_of_effect x r.operands r.after r.state) refl (writes_of xs r.operands r.after r.state) refl are (λ us is. writes-append xs ys r us is)
  where
    go : (one : Option (List Write)) → writes_of_effect x r.operands r.after r.state ≡ one → (rest : Option (List Write)) → writes_of xs r.operands r.after r.state ≡ rest →
        option_and_then (λ (first : List Write). option_map (λ (more : List Write). first ++ more) rest) one ≡ Some ws →
        ((us : List Write) → writes_of xs r.operands r.after r.state ≡ Some us → writes_of (xs ++ ys) r.operands r.after r.state ≡ option_map (λ more. us ++ more) (writes_of ys r.operands r.after r.state)) →
        writes_of ((x ∷ xs) ++ ys) r.operands r.after r.state ≡ option_map (λ more. ws ++ more) (writes_of ys r.operands r.after r.state)
    go None is rest are_rest whole deep = absurd (cc whole)
    go (Some first) is None are_rest whole deep = absurd (cc whole)
    go (Some first) is (Some more) are_rest whole deep =
        let same : first ++ more ≡ ws = cc whole in
        ap (option_and_then (λ (f : List Write). option_map (λ (m : List Write). f ++ m) (writes_of (xs ++ ys) r.operands r.after r.state))) is
        ∙ ap (option_map (λ (m : List Write). first ++ m)) (deep more are_rest)
        ∙ joined (writes_of ys r.operands r.after r.state) same
      where
        joined : (o : Option (List Write)) → first ++ more ≡ ws → option_map (λ (m : List Write). first ++ m) (option_map (λ (m : List Write). more ++ m) o) ≡ option_map (λ m. ws ++ m) o
        joined None same = refl
        joined (Some us) same = ap Some (sym (append_assoc first more us) ∙ ap (λ vs. vs ++ us) same)

-- ---- the matched effect

-- each leaf of these pairs reads what it meets
pub all_read : (c : Scene) → IsScene c → (l : NodeLine) → Suits c l → (s : State) (after : ℕ) → AreKept (IsOuter c) c.start s → AreHeld c l s → (xs : List Pair) →
    list_all (λ (x : Pair). leaf_meets (machine_of c.d) (target_of c.t) l.stands l.pairs x.leaf x.part) xs ≡ true →
    AllByRecursion (PartHolds (IsGood c)) xs → AllByRecursion (LeafHolds (NamesOperands c.d.facts.word l.form.kinds)) xs →
    AllByRecursion (ReadsAs (record { operands = line_operands c l; after = after; state = s }) (at_front c)) xs
all_read c is l suits s after kept held [] meet good names = tt
all_read c is l suits s after kept held (x ∷ xs) meet good names =
    let test : Pair → Bool = λ x. leaf_meets (machine_of c.d) (target_of c.t) l.stands l.pairs x.leaf x.part in
    let parts = and_both (test x) (list_all test xs) meet in
    (leaf_reads c is l suits s kept held after x.leaf x.part names.0 good.0 parts.0, all_read c is l suits s after kept held xs parts.1 good.1 names.1)

pub names-parts : (word : ℕ) (kinds : List OperandKind) → GoesToParts (NamesOperands word kinds)
names-parts word kinds = record {
  unary = λ op arg names. names;
  left = λ op left right names. names.0;
  right = λ op left right names. names.1;
  load = λ width address names. names;
}

abbrev pub own_space : Scene → Place → ℕ
own_space c (place.Operand space number) = c.d.allocatable
own_space c (place.Cell space index) = space

abbrev pub own_index : Scene → NodeLine → Place → ℕ
own_index c l (place.Operand space number) = slot_value c.t c.e l.own
own_index c l (place.Cell space index) = index

abbrev pub IsFree : Scene → NodeLine → Place → ℕ → ℕ → Type 0
IsFree c l to = IsFreeCell c l (own_space c to) (own_index c l to)

-- a place that a child's value goes to is the node's own cell
place_is_own : (c : Scene) (l : NodeLine) (to p : Place) → Suits c l → is_place_of false l.stands to p ≡ true → NamesPlace l.form.kinds p →
    ((space number : ℕ) → p ≡ place.Operand space number → is_written number l.form.assignments ≡ true) →
    (space_of p ≡ own_space c to) × (index_of p (line_operands c l) ≡ own_index c l to)
place_is_own c l (place.Operand a b) (place.Cell space index) suits takes names written = absurd (cc takes)
place_is_own c l (place.Cell a b) (place.Cell space index) suits takes names written =
    let same : place.Cell a b ≡ place.Cell space index = same_places (place.Cell a b) (place.Cell space index) takes in
    let one : space ≡ a = cc in
    let two : index ≡ b = cc in (one, two)
place_is_own c l (place.Cell a b) (place.Operand space number) suits takes names written = absurd (go (slice_get l.stands number) takes)
  where
    go : (it : Option Stand) → takes_goal false (place.Cell a b) it ≡ true → ⊥
    go None e = cc e
    go (Some Own) e = cc e
    go (Some Child) e = cc e
    go (Some Spare) e = cc e
    go (Some (Param n)) e = cc e
    go (Some (Cell s i)) e = cc e
    go (Some (Constant t)) e = cc e
place_is_own c l (place.Operand a b) (place.Operand space number) suits takes names written =
    let it = operand_is c l number (kind.Register space) suits names in
    go it.stand it.suits it.scratch it.value (ap (takes_goal false (place.Operand a b)) (sym it.is) ∙ takes) (written space number refl)
  where
    go : (stand : Stand) → operand_suits (machine_of c.d) (target_of c.t) l.root l.form.assignments l.pairs number (kind.Register space) stand ≡ true → (scratch : ℕ) →
        slice_index (line_operands c l) number ≡ slot_value c.t c.e (slot_at (machine_of c.d) l.own (kind.Register space) (is_written number l.form.assignments) scratch stand) →
        takes_goal false (place.Operand a b) (Some stand) ≡ true → is_written number l.form.assignments ≡ true →
        (space ≡ c.d.allocatable) × (slice_index (line_operands c l) number ≡ slot_value c.t c.e l.own)
    go Own fits scratch value e w =
        (numbers space c.d.allocatable (and_both (nat_eq space c.d.allocatable) (is_written number l.form.assignments && not (is_read number l.form.assignments)) fits).0, value)
    go Child fits scratch value e w = (
      numbers space c.d.allocatable (and_both (nat_eq space c.d.allocatable)
          (is_met number l.pairs && (not (is_written number l.form.assignments) || (is_read number l.form.assignments && not l.root))) fits).0,
      value ∙ ap (λ x. slot_value c.t c.e (cond x l.own (slot.Scratch scratch))) w,
    )
    go Spare fits scratch value e w = absurd (cc e)
    go (Param n) fits scratch value e w = absurd (cc e)
    go (Cell s i) fits scratch value e w = absurd (cc e)
    go (Constant t) fits scratch value e w = absurd (cc e)

-- an effect that gives the goal's value to the own cell
pub record IsMatched (c : Scene) (l : NodeLine) (to : Place) (u : Tree) (e : Effect) (r : Reading) : Type 0 where
  pub same : IsSame r (at_front c) (tree_of e.value) u
  pub writes : writes_of_effect e r.operands r.after r.state
      ≡ option_map (λ word. ToCell (own_space c to) (own_index c l to) word ∷ []) (value_at u (at_front c))
  pub input : effect_has_input e ≡ has_input (tree_of e.value)
  pub inputs : inputs_in u ≡ inputs_in (tree_of e.value) + inputs_met l.pairs

no_guard : (g : Option Term) (xs : List Pair) → guard_pairs false (option_map tree_of g) None ≡ Some xs → (g ≡ None) × (xs ≡ [])
no_guard None xs e = (refl, let it : Some [] ≡ Some xs = e in let same : xs ≡ [] = cc in same)
no_guard (Some g) xs e = absurd (cc e)

unguarded : (c : Scene) (l : NodeLine) (to p : Place) (value : Term) (u : Tree) (r : Reading) → (space_of p ≡ own_space c to) × (index_of p r.operands ≡ own_index c l to) →
    IsSame r (at_front c) (tree_of value) u → inputs_in u ≡ inputs_in (tree_of value) + inputs_met l.pairs →
    IsMatched c l to u (record { guard = None; to = dest.Reg p; value = value }) r
unfolding writes_of_effect effect_has_input
unguarded c l to p value u r own same inputs = record {
  same = same;
  writes = ap (λ v. option_map (λ (w : Write). w ∷ []) (option_and_then (write_of (dest.Reg p) r.operands r.after r.state) v)) same.value
      ∙ go (value_at u (at_front c));
  input = refl;
  inputs = inputs;
}
  where
    go : (v : Option ℕ) → option_map (λ (w : Write). w ∷ []) (option_and_then (write_of (dest.Reg p) r.operands r.after r.state) v)
        ≡ option_map (λ word. ToCell (own_space c to) (own_index c l to) word ∷ []) v
    go None = refl
    go (Some word) = ap (λ n. Some (ToCell n (index_of p r.operands) word ∷ [])) own.0 ∙ ap (λ n. Some (ToCell (own_space c to) n word ∷ [])) own.1

-- What a line of a child writes: the goal's value to its own cell, and anything to free cells, or nothing where the goal has
-- no value. It takes so many words of the input.
pub record LineWrites (c : Scene) (l : NodeLine) (to : Place) (u : Tree) (es : List Effect) (r : Reading) : Type 0 where
  pub inputs : ℕ
  pub counted : inputs_in u ≡ inputs + inputs_met l.pairs
  pub takes : list_any effect_has_input es ≡ true → 1 ≤ inputs
  pub takes_none : list_any effect_has_input es ≡ false → inputs ≡ 0
  pub writes : ((value_at u (at_front c) ≡ None) × (writes_of es r.operands r.after r.state ≡ None))
      ⊎ ((word : ℕ) × (ws : List Write) × (value_at u (at_front c) ≡ Some word) × (writes_of es r.operands r.after r.state ≡ Some ws)
      × SetsOne (IsFree c l to) (own_space c to) (own_index c l to) word ws)

pub any-append : (xs ys : List Effect) → list_any effect_has_input xs ≡ false → list_any effect_has_input (xs ++ ys) ≡ list_any effect_has_input ys
any-append [] ys none = refl
any-append (x ∷ xs) ys none =
    let parts = or_neither (effect_has_input x) (list_any effect_has_input xs) none in
    ap (λ b. b || list_any effect_has_input (xs ++ ys)) parts.0 ∙ any-append xs ys parts.1

sets-then_free : (F : ℕ → ℕ → Type 0) (space index word : ℕ) (ws us : List Write) → SetsOne F space index word ws → AreFree F us → SetsOne F space index word (ws ++ us)
sets-then_free F space index word [] us sets free = absurd sets
sets-then_free F space index word (w ∷ ws) us (inl here) free = inl (here.0, free-append F ws us here.1 free)
sets-then_free F space index word (w ∷ ws) us (inr there) free = inr (there.0, sets-then_free F space index word ws us there.1 free)

joined_writes : (c : Scene) (l : NodeLine) (to : Place) (u : Tree) (before : List Effect) (this : Effect) (behind : List Effect) (r : Reading) →
    AllFree (IsFree c l to) before r → IsMatched c l to u this r → AllFree (IsFree c l to) behind r → LineWrites c l to u (before ++ (this ∷ behind)) r
joined_writes c l to u before this behind r first matched last = record {
  inputs = inputs_in (tree_of this.value);
  counted = matched.inputs;
  takes = λ any. some (has_input (tree_of this.value)) refl (sym taking ∙ any);
  takes_none = λ none. inputs_none (tree_of this.value) (sym taking ∙ none);
  writes = go (value_at u (at_front c)) refl;
}
  where
    or_false : (b : Bool) → (b || false) ≡ b
    or_false true = refl
    or_false false = refl

    taking : list_any effect_has_input (before ++ (this ∷ behind)) ≡ has_input (tree_of this.value)
    taking =
        any-append before (this ∷ behind) first.quiet ∙ ap (λ b. effect_has_input this || b) last.quiet ∙ or_false (effect_has_input this) ∙ matched.input

    some : (b : Bool) → has_input (tree_of this.value) ≡ b → has_input (tree_of this.value) ≡ true → 1 ≤ inputs_in (tree_of this.value)
    some b is yet = by (inputs_in (tree_of this.value)) refl
      where
        by : (n : ℕ) → inputs_in (tree_of this.value) ≡ n → 1 ≤ n
        by zero none = absurd (let no : true ≡ false = sym yet ∙ inputs_some (tree_of this.value) none in cc no)
        by (suc n) more = omega arith

    all : (one : Option (List Write)) → writes_of_effect this r.operands r.after r.state ≡ one →
        writes_of (before ++ (this ∷ behind)) r.operands r.after r.state
        ≡ option_map (λ (m : List Write). first.writes ++ m) (option_and_then (λ (f : List Write). option_map (λ (m : List Write). f ++ m) (writes_of behind r.operands r.after r.state)) one)
    all one same =
        writes-append before (this ∷ behind) r first.writes first.are
        ∙ ap (λ (o : Option (List Write)). option_map (λ (m : List Write). first.writes ++ m) (option_and_then (λ (f : List Write). option_map (λ (m : List Write). f ++ m) (writes_of behind r.operands r.after r.state)) o)) same

    go : (v : Option ℕ) → value_at u (at_front c) ≡ v →
        ((value_at u (at_front c) ≡ None) × (writes_of (before ++ (this ∷ behind)) r.operands r.after r.state ≡ None))
        ⊎ ((word : ℕ) × (ws : List Write) × (value_at u (at_front c) ≡ Some word) × (writes_of (before ++ (this ∷ behind)) r.operands r.after r.state ≡ Some ws)
        × SetsOne (IsFree c l to) (own_space c to) (own_index c l to) word ws)
    go None is = inl (is, all None (matched.writes ∙ ap (option_map (λ word. ToCell (own_space c to) (own_index c l to) word ∷ [])) is))
    go (Some word) is =
        let one : List Write = ToCell (own_space c to) (own_index c l to) word ∷ [] in
        inr (
          word,
          first.writes ++ (one ++ last.writes),
          is,
          all (Some one) (matched.writes ∙ ap (option_map (λ word. ToCell (own_space c to) (own_index c l to) word ∷ [])) is)
              ∙ ap (λ (o : Option (List Write)). option_map (λ (m : List Write). first.writes ++ m) (option_map (λ (m : List Write). one ++ m) o)) last.are,
          sets-after_free (IsFree c l to) (own_space c to) (own_index c l to) word first.writes (one ++ last.writes) first.free (inl (refl, last.free)),
        )

module _ (c : Scene) (is : IsScene c) (l : NodeLine) (suits : Suits c l) (s : State) (after : ℕ) (kept : AreKept (IsOuter c) c.start s) (held : AreHeld c l s)
    (leaves : list_all (λ (x : Pair). leaf_meets (machine_of c.d) (target_of c.t) l.stands l.pairs x.leaf x.part) l.pairs ≡ true) (to : Place) (u : Tree)
    (good : IsGood c u) (few : inputs_in u ≤ 1) (untaken : 1 ≤ inputs_in u → inputs_met l.pairs ≡ 0 → next_input_of s ≡ next_input_of c.start) where
  matched_writes : (e : Effect) → EffectNames c.d.facts.word l.form.kinds e → meets_it false l.stands (gets (ToPlace to) u) e ≡ true →
      assignment_pairs false (assignment_of e) (gets (ToPlace to) u) ≡ Some l.pairs →
      ((space number : ℕ) → e.to ≡ dest.Reg (place.Operand space number) → is_written number l.form.assignments ≡ true) →
      IsMatched c l to u e (record { operands = line_operands c l; after = after; state = s })
  matched_writes e names meets_goal pairs written = go e.to refl meets_goal
    where
      register : (p : Place) → e.to ≡ dest.Reg p → is_place_of false l.stands to p ≡ true → IsMatched c l to u e (record { operands = line_operands c l; after = after; state = s })
      register p same takes =
          let r : Reading = record { operands = line_operands c l; after = after; state = s } in
          let v : Tree = tree_of e.value in
          let one = both_parts (guard_pairs false (option_map tree_of e.guard) None) (both (destination_pairs false (destination_of e.to) (ToPlace to)) (pairs_of false v u)) l.pairs pairs in
          let guard = no_guard e.guard one.0 one.2 in
          let two = both_parts (destination_pairs false (destination_of e.to) (ToPlace to)) (pairs_of false v u) one.1 one.3 in
          let none : two.0 ≡ [] = let it : Some [] ≡ Some two.0 = subst (λ (x : Dest). destination_pairs false (destination_of x) (ToPlace to) ≡ Some two.0) same two.2 in cc in
          let whole : two.1 ≡ l.pairs = ap (λ xs. xs ++ two.1) (sym none) ∙ two.4 ∙ ap (λ xs. xs ++ one.1) (sym guard.1) ∙ one.4 in
          let ps : pairs_of false v u ≡ Some l.pairs = two.3 ∙ ap Some whole in
          let counted : inputs_in u ≡ inputs_in v + inputs_met l.pairs = inputs_meet false v u l.pairs ps in
          let reads = all_read c is l suits s after kept held l.pairs leaves (parts_hold false (IsGood c) (good-parts c) v u l.pairs ps good)
          (leaves_hold false (NamesOperands c.d.facts.word l.form.kinds) (names-parts c.d.facts.word l.form.kinds) v u l.pairs ps names.value) in
          let alike : AreAlikeReadings r (at_front c) = record { order = ap (λ f. f.order) kept.facts; memory = kept.memory } in
          let value : IsSame r (at_front c) v u =
          values_meet false r (at_front c) alike (λ no_root. absurd (cc no_root)) v u l.pairs ps
          (λ reads_input. let it = once v counted reads_input in untaken it.0 it.1) reads in
          let own = place_is_own c l to p suits takes (subst (λ (x : Dest). NamesDest c.d.facts.word l.form.kinds x) same names.to)
          (λ space number here. written space number (same ∙ ap dest.Reg here)) in
          let known : record { guard = None; to = dest.Reg p; value = e.value } ≡ e =
          let it : (g : Option Term) (x : Dest) → e.guard ≡ g → e.to ≡ x → record { guard = g; to = x; value = e.value } ≡ e =
          λ g x is_g is_x. subst (λ (h : Option Term). record { guard = h; to = x; value = e.value } ≡ e) is_g (subst (λ (y : Dest). record { guard = e.guard; to = y; value = e.value } ≡ e) is_x refl) in
          it None (dest.Reg p) guard.0 same in
          subst (λ (x : Effect). IsMatched c l to u x r) known (unguarded c l to p e.value u r own value counted)
        where
          once : (v : Tree) → inputs_in u ≡ inputs_in v + inputs_met l.pairs → has_input v ≡ true → (1 ≤ inputs_in u) × (inputs_met l.pairs ≡ 0)
          once v counted reads = by (inputs_in v) refl
            where
              by : (n : ℕ) → inputs_in v ≡ n → (1 ≤ inputs_in u) × (inputs_met l.pairs ≡ 0)
              by zero none = absurd (let no : true ≡ false = sym reads ∙ inputs_some v none in cc no)
              by (suc n) some = (omega (arith, counted, some), omega (arith, counted, some, few))

      go : (x : Dest) → e.to ≡ x → meets false l.stands (ToPlace to) (destination_of x) ≡ true → IsMatched c l to u e (record { operands = line_operands c l; after = after; state = s })
      go (dest.Reg p) same meets_goal = register p same meets_goal
      go (dest.Mem width address) same meets_goal = absurd (cc meets_goal)
      go dest.Pc same meets_goal = absurd (cc meets_goal)
      go dest.Out same meets_goal = absurd (cc meets_goal)
      go dest.Halt same meets_goal = absurd (cc meets_goal)
      go dest.Trap same meets_goal = absurd (cc meets_goal)

  -- ---- all effects

  -- an effect that misses the goal is apart from the own cell
  missing_is_apart : (e : Effect) → meets_it false l.stands (gets (ToPlace to) u) e ≡ false → (space index : ℕ) → e.to ≡ dest.Reg (place.Cell space index) →
      is_flag_space c.d space ≡ true → (own_space c to ≢ space) ⊎ (own_index c l to ≢ index)
  missing_is_apart e misses space index same flag =
      go to (subst (λ (x : Dest). meets false l.stands (ToPlace to) (destination_of x) ≡ false) same misses)
    where
      go : (goal : Place) → same_place goal (place.Cell space index) ≡ false → (own_space c goal ≢ space) ⊎ (own_index c l goal ≢ index)
      go (place.Operand a b) apart = inl (λ equal. let no : true ≡ false = sym flag ∙ ap (is_flag_space c.d) (sym equal) ∙ allocatable_no_flag c.d is.placed.valid in cc no)
      go (place.Cell a b) apart = elim (cases_Bool (nat_eq a space)) [
        | inl one ↦ inr (λ equal. let two : nat_eq b index ≡ true = eq_test b index equal in
            let no : true ≡ false = sym (and_from (nat_eq a space) (nat_eq b index) one two) ∙ apart in cc no)
        | inr other ↦ inl (λ equal. let no : true ≡ false = sym (eq_test a space equal) ∙ other in cc no)
      ]

  missing_write : (es : List Effect) → AllByRecursion (EffectNames c.d.facts.word l.form.kinds) es → AllByRecursion (Harmless (machine_of c.d) l.stands) es →
      AllByRecursion (Misses false l.stands (gets (ToPlace to) u)) es →
      AllByRecursion (λ e. WritesFree (IsFree c l to) e (record { operands = line_operands c l; after = after; state = s })) es
  missing_write [] names harmless misses = tt
  missing_write (e ∷ es) names harmless misses = (
    harmless_writes c is l suits s after (own_space c to) (own_index c l to) e names.0 harmless.0 (missing_is_apart e misses.0),
    missing_write es names.1 harmless.1 misses.1,
  )

  pub line_writes : (es : List Effect) → l.form.assignments ≡ map assignment_of es → AllByRecursion (EffectNames c.d.facts.word l.form.kinds) es →
      all_pairs false l.stands (gets (ToPlace to) u ∷ []) (map assignment_of es) ≡ Some l.pairs → count_met false l.stands (gets (ToPlace to) u) es ≡ 1 →
      list_all (is_allowed (machine_of c.d) false l.stands (gets (ToPlace to) u ∷ [])) (map assignment_of es) ≡ true →
      LineWrites c l to u es (record { operands = line_operands c l; after = after; state = s })
  line_writes es listed names pairs once allowed =
      let m : Machine = machine_of c.d in
      let goal : Assignment = gets (ToPlace to) u in
      let r : Reading = record { operands = line_operands c l; after = after; state = s } in
      let it : IsSingle false l.stands goal es l.pairs = single false l.stands goal es l.pairs pairs once in
      let test : Assignment → Bool = is_allowed m false l.stands (goal ∷ []) in
      let allows = all_of_parts test it.before (it.this ∷ it.behind) (subst (λ xs. list_all test (map assignment_of xs) ≡ true) it.is allowed) in
      let later = and_both (test (assignment_of it.this)) (list_all test (map assignment_of it.behind)) allows.1 in
      let named = each_of_append (EffectNames c.d.facts.word l.form.kinds) it.before (it.this ∷ it.behind) (subst (AllByRecursion (EffectNames c.d.facts.word l.form.kinds)) it.is names) in
      let first : AllFree (IsFree c l to) it.before r =
      all_free (IsFree c l to) it.before r
      (missing_write it.before named.0 (missing_are_harmless false m l.stands goal it.before allows.0 it.before_misses) it.before_misses) in
      let last : AllFree (IsFree c l to) it.behind r =
      all_free (IsFree c l to) it.behind r
      (missing_write it.behind named.1.1 (missing_are_harmless false m l.stands goal it.behind later.1 it.behind_misses) it.behind_misses) in
      let this : IsMatched c l to u it.this r = matched_writes it.this named.1.0 it.this_meets it.are_pairs
      (λ space number here. ap (λ ys. is_written number ys) (listed ∙ ap (λ xs. map assignment_of xs) it.is)
      ∙ any_of_parts (λ a. writes_operand number a.to) it.before it.this it.behind
      (subst (λ (x : Dest). writes_operand number (destination_of x) ≡ true) (sym here) (itself number))) in
      subst (λ xs. LineWrites c l to u xs r) (sym it.is) (joined_writes c l to u it.before it.this it.behind r first this last)
    where
      itself : (n : ℕ) → nat_eq n n ≡ true
      itself n = grind arith
