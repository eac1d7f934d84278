-- The tile of a call: its two effects after laws, and what the root's line writes of them.
use Rattle.std.proofs.Common.{◌≡◌, ◌∙◌, ◌+◌, ◌||◌, ◌&&◌, ℕ, zero, suc, List, [], ◌∷◌, ◌++◌, map, Bool, true, false, cond, None, Some, nat_eq, slice_get, slice_set, option_and_then, refl, sym, ap, subst, arith}
use Rattle.std.specs.List.{AllByRecursion, list_all, list_any}
use Rattle.qc_lists.specs.Law.Lists.{each_append}
use Rattle.qc_terms.specs.declared.state.State.{State}
use Rattle.qc_terms.specs.declared.term.Dest.{Dest}
use Rattle.qc_terms.specs.declared.term.Dest.TheVariants as dest
use Rattle.qc_terms.specs.declared.term.Effect.{Effect}
use Rattle.qc_terms.specs.declared.term.Place.{Place}
use Rattle.qc_terms.specs.declared.term.Place.TheVariants as place
use Rattle.qc_terms.specs.Effects.{ToCell, ToCounter, Write, effect_has_input, writes_of_effect}
use Rattle.qc_terms.specs.Tree.{Tree}
use Rattle.qc_descr.specs.Valid.{EffectNames}
use Rattle.qc_tiles.specs.Sound.{EffectNamesOwn, facts_of, kinds_of_tile}
use Rattle.qc_equations.specs.declared.names.Law.{Law}
use Rattle.qc_derivations.specs.Forest.{Stand, is_there}
use Rattle.qc_derivations.specs.Goals.{goals_after, with_part, with_place}
use Rattle.qc_derivations.specs.Machine.{Assignment, assignment_of, destination_of, machine_of}
use Rattle.qc_derivations.specs.Matching.{Pair, all_pairs, assignment_pairs, goal_met, meets, pairs_at}
use Rattle.qc_derivations.specs.Nodes.{inputs_in_goal, is_allowed, target_of}
use Rattle.qc_derivations.specs.Rules.{is_harmless, is_written, leaf_meets, writes_operand}
use Rattle.qc_derivations.specs.Sequence.{place_slot}
use Rattle.qc_soundness.proofs.CallWrites.{Call, CallEffects, counter_effect_more, free_effect_more, link_effect_more}
use Rattle.qc_soundness.proofs.Goals.{Laws}
use Rattle.qc_soundness.proofs.LeafValues.{AreHeld, NodeLine, Suits, line_operands}
use Rattle.qc_soundness.proofs.Optional.{and_both, both_parts, map_parts, or_left, or_right, then_parts}
use Rattle.qc_soundness.proofs.Patterns.{GoesToParts, LeafHolds, PartHolds, inputs_met}
use Rattle.qc_soundness.proofs.RootGoal.{AlikeOne, AllHoldOf, HasPairs, all_leaves_hold, all_parts_hold, has_pairs, one-refl, one-trans, part_alike}
use Rattle.qc_soundness.proofs.RootLine.{goal_inputs_met, reads_input, root_writes}
use Rattle.qc_soundness.proofs.RootRuns.{IsRootFree}
use Rattle.qc_soundness.proofs.Scene.{IsGood, IsOuter, IsScene, Scene}
use Rattle.qc_soundness.proofs.Single.{count_met, counted}
use Rattle.qc_soundness.proofs.TileRuns.{root_free}
use Rattle.qc_soundness.proofs.Writes.{AreKept}

-- ---- goals

pub record TwoGoals (a b : Assignment) (gs : List Assignment) : Type 0 where
  pub first : Assignment
  pub second : Assignment
  pub are : gs ≡ first ∷ second ∷ []
  pub first_alike : AlikeOne a first
  pub second_alike : AlikeOne b second

places_alike : Laws → (law : Law) (place : List ℕ) (a b : Assignment) (gs : List Assignment) → with_place law place (a ∷ b ∷ []) ≡ Some gs → TwoGoals a b gs
places_alike laws law [] a b gs e = absurd (cc e)
places_alike laws law (number ∷ []) a b gs e = absurd (cc e)
places_alike laws law (zero ∷ part ∷ place) a b gs e =
    let it = map_parts (slice_set (a ∷ b ∷ []) 0) (option_and_then (with_part law part place) (Some a)) gs e in
    record { first = it.0; second = b; are = sym it.2; first_alike = part_alike laws law part place a it.0 it.1; second_alike = one-refl b }
places_alike laws law (suc zero ∷ part ∷ place) a b gs e =
    let it = map_parts (slice_set (a ∷ b ∷ []) 1) (option_and_then (with_part law part place) (Some b)) gs e in
    record { first = a; second = it.0; are = sym it.2; first_alike = one-refl a; second_alike = part_alike laws law part place b it.0 it.1 }
places_alike laws law (suc (suc number) ∷ part ∷ place) a b gs e =
    let it = map_parts (slice_set (a ∷ b ∷ []) (suc (suc number))) (option_and_then (with_part law part place) (slice_get (a ∷ b ∷ []) (suc (suc number)))) gs e in
    absurd (let by = then_parts (with_part law part place) (slice_get (a ∷ b ∷ []) (suc (suc number))) it.0 it.1 in let no : None ≡ Some by.0 = by.1 in cc no)

pub two_goals : Laws → (steps : List (Law × List ℕ)) (a b : Assignment) (gs : List Assignment) → goals_after true steps (a ∷ b ∷ []) ≡ Some gs → TwoGoals a b gs
two_goals laws [] a b gs e =
    let it : Some (a ∷ b ∷ []) ≡ Some gs = e in
    record { first = a; second = b; are = let same : gs ≡ a ∷ b ∷ [] = cc in same; first_alike = one-refl a; second_alike = one-refl b }
two_goals laws (step ∷ steps) a b gs e =
    let it = then_parts (goals_after true steps) (with_place step.0 step.1 (a ∷ b ∷ [])) gs e in
    let one : TwoGoals a b it.0 = places_alike laws step.0 step.1 a b it.0 it.1 in
    let rest : TwoGoals one.first one.second gs = two_goals laws steps one.first one.second gs (subst (λ xs. goals_after true steps xs ≡ Some gs) one.are it.2) in
    record {
      first = rest.first;
      second = rest.second;
      are = rest.are;
      first_alike = one-trans a one.first rest.first one.first_alike rest.first_alike;
      second_alike = one-trans b one.second rest.second one.second_alike rest.second_alike;
    }

-- ---- pairs

-- which goal an effect meets, if it meets one
met_first : (stands : List Stand) (g h a : Assignment) → (b : Bool) → meets true stands g.to a.to ≡ b → (d : Bool) → meets true stands h.to a.to ≡ d →
    goal_met true stands (g ∷ h ∷ []) a ≡ cond b (Some g) (cond d (Some h) None)
met_first stands g h a b is d has = ap (λ x. cond x (Some g) (cond (meets true stands h.to a.to) (Some h) None)) is ∙ ap (λ x. cond b (Some g) (cond x (Some h) None)) has

-- what all terms of the goals have, all parts have
pub parts_of_two : (Holds : Tree → Type 0) → GoesToParts Holds → (stands : List Stand) (g h : Assignment) → AllHoldOf Holds g → AllHoldOf Holds h → (es : List Effect) (xs : List Pair) →
    all_pairs true stands (g ∷ h ∷ []) (map assignment_of es) ≡ Some xs → AllByRecursion (PartHolds Holds) xs
parts_of_two Holds down stands g h one two [] xs e = subst (AllByRecursion (PartHolds Holds)) (let it : Some [] ≡ Some xs = e in let same : [] ≡ xs = cc in same) tt
parts_of_two Holds down stands g h one two (x ∷ es) xs e =
    let a : Assignment = assignment_of x in
    let parts = both_parts (pairs_at true a (goal_met true stands (g ∷ h ∷ []) a)) (all_pairs true stands (g ∷ h ∷ []) (map assignment_of es)) xs e in
    subst (AllByRecursion (PartHolds Holds)) parts.4
    (each_append (PartHolds Holds) parts.0 parts.1 (go (meets true stands g.to a.to) (meets true stands h.to a.to) parts.0 parts.2) (parts_of_two Holds down stands g h one two es parts.1 parts.3))
  where
    go : (b d : Bool) → (ys : List Pair) → pairs_at true (assignment_of x) (cond b (Some g) (cond d (Some h) None)) ≡ Some ys → AllByRecursion (PartHolds Holds) ys
    go true d ys here = all_parts_hold Holds down (assignment_of x) g ys (has_pairs (assignment_of x) g ys here) one
    go false true ys here = all_parts_hold Holds down (assignment_of x) h ys (has_pairs (assignment_of x) h ys here) two
    go false false ys here = subst (AllByRecursion (PartHolds Holds)) (let it : Some [] ≡ Some ys = here in let same : [] ≡ ys = cc in same) tt

pub leaves_of_two : (Holds : Tree → Type 0) → GoesToParts Holds → (stands : List Stand) (g h : Assignment) (es : List Effect) → AllByRecursion (λ e. AllHoldOf Holds (assignment_of e)) es → (xs : List Pair) →
    all_pairs true stands (g ∷ h ∷ []) (map assignment_of es) ≡ Some xs → AllByRecursion (LeafHolds Holds) xs
leaves_of_two Holds down stands g h [] all xs e = subst (AllByRecursion (LeafHolds Holds)) (let it : Some [] ≡ Some xs = e in let same : [] ≡ xs = cc in same) tt
leaves_of_two Holds down stands g h (x ∷ es) all xs e =
    let a : Assignment = assignment_of x in
    let parts = both_parts (pairs_at true a (goal_met true stands (g ∷ h ∷ []) a)) (all_pairs true stands (g ∷ h ∷ []) (map assignment_of es)) xs e in
    subst (AllByRecursion (LeafHolds Holds)) parts.4
    (each_append (LeafHolds Holds) parts.0 parts.1 (go (meets true stands g.to a.to) (meets true stands h.to a.to) parts.0 parts.2) (leaves_of_two Holds down stands g h es all.1 parts.1 parts.3))
  where
    go : (b d : Bool) → (ys : List Pair) → pairs_at true (assignment_of x) (cond b (Some g) (cond d (Some h) None)) ≡ Some ys → AllByRecursion (LeafHolds Holds) ys
    go true d ys here = all_leaves_hold Holds down (assignment_of x) g ys (has_pairs (assignment_of x) g ys here) all.0
    go false true ys here = all_leaves_hold Holds down (assignment_of x) h ys (has_pairs (assignment_of x) h ys here) all.0
    go false false ys here = subst (AllByRecursion (LeafHolds Holds)) (let it : Some [] ≡ Some ys = here in let same : [] ≡ ys = cc in same) tt

-- ---- the line

-- an effect and what it is to write, as a goal after laws
pub record IsHalf (c : Scene) (f : Effect) (g : Assignment) (write : Write) : Type 0 where
  pub good : AllHoldOf (IsGood c) (assignment_of f)
  pub alike : AlikeOne (assignment_of f) g
  pub names : EffectNames c.d.facts.word (kinds_of_tile (facts_of c.d) c.t) f
  pub own : EffectNamesOwn (facts_of c.d) f
  pub none : inputs_in_goal g ≡ 0
  pub writes : writes_of_effect f c.e.operands c.after c.start ≡ Some (write ∷ [])

list_parts : (test : Pair → Bool) (xs ys : List Pair) → list_all test (xs ++ ys) ≡ true → (list_all test xs ≡ true) × (list_all test ys ≡ true)
list_parts test [] ys all = (refl, all)
list_parts test (x ∷ xs) ys all =
    let parts = and_both (test x) (list_all test (xs ++ ys)) all in
    let deep = list_parts test xs ys parts.1 in
    (ap (λ b. b && list_all test xs) parts.0 ∙ deep.0, deep.1)

module _ (c : Scene) (is : IsScene c) (l : NodeLine) (suits : Suits c l) (root : l.root ≡ true) (s : State) (kept : AreKept (IsOuter c) c.start s) (held : AreHeld c l s)
    (call : Call) (f k : Effect) (g h : Assignment) (link : IsHalf c f g (ToCell call.space call.index call.word)) (counter : IsHalf c k h (ToCounter call.target))
    (own_link : (q : Place) → f.to ≡ dest.Reg q → l.own ≡ place_slot q) (not_place : (q : Place) → k.to ≡ dest.Reg q → ⊥) (apart : (a : Assignment) → meets true l.stands g.to a.to ≡ true → meets true l.stands h.to a.to ≡ true → ⊥) where
  -- a matched effect
  half : (e f : Effect) (g : Assignment) (write : Write) (ps : List Pair) → IsHalf c f g write → ((q : Place) → f.to ≡ dest.Reg q → l.own ≡ place_slot q) → meets true l.stands g.to (assignment_of e).to ≡ true →
      assignment_pairs true (assignment_of e) g ≡ Some ps → list_all (λ (x : Pair). leaf_meets (machine_of c.d) (target_of c.t) l.stands l.pairs x.leaf x.part) ps ≡ true → EffectNames c.d.facts.word l.form.kinds e →
      ((space number : ℕ) → e.to ≡ dest.Reg (place.Operand space number) → is_written number l.form.assignments ≡ true) →
      (writes_of_effect e (line_operands c l) c.after s ≡ Some (write ∷ [])) × (effect_has_input e ≡ false)
  half e f g write ps this own met pairs leaves names written =
      let has : HasPairs (assignment_of e) g ps = has_pairs (assignment_of e) g ps pairs in
      let counts = goal_inputs_met l.stands (assignment_of e) g ps has met in (
        root_writes c l ps e f g s c.after is suits root kept held refl leaves has met this.good this.alike names this.names.to this.own.to own written
            (λ some. absurd (omega (arith, some, counts, this.none)))
            ∙ this.writes,
        quiet (effect_has_input e) refl counts (this.none),
      )
    where
      quiet : (b : Bool) → effect_has_input e ≡ b → inputs_in_goal g ≡ inputs_in_goal (assignment_of e) + inputs_met ps → inputs_in_goal g ≡ 0 → b ≡ false
      quiet false reads counts none = refl
      quiet true reads counts none = absurd (let some = reads_input e reads in omega (arith, some, counts, none))

  pub call_effects : (es : List Effect) (links counters : Bool) (xs : List Pair) → count_met true l.stands g es ≡ cond links 1 0 → count_met true l.stands h es ≡ cond counters 1 0 →
      all_pairs true l.stands (g ∷ h ∷ []) (map assignment_of es) ≡ Some xs → list_all (λ (x : Pair). leaf_meets (machine_of c.d) (target_of c.t) l.stands l.pairs x.leaf x.part) xs ≡ true →
      list_all (is_allowed (machine_of c.d) true l.stands (g ∷ h ∷ [])) (map assignment_of es) ≡ true → AllByRecursion (EffectNames c.d.facts.word l.form.kinds) es →
      ((number : ℕ) → list_any (λ (a : Assignment). writes_operand number a.to) (map assignment_of es) ≡ true → is_written number l.form.assignments ≡ true) →
      CallEffects (IsRootFree c l) call links counters es (record { operands = line_operands c l; after = c.after; state = s })
  call_effects [] true counters xs one two pairs leaves allowed names written = absurd (omega (arith, one))
  call_effects [] false true xs one two pairs leaves allowed names written = absurd (omega (arith, two))
  call_effects [] false false xs one two pairs leaves allowed names written = record { writes = []; are = refl; call = (refl, refl); quiet = refl }
  call_effects (e ∷ es) links counters xs one two pairs leaves allowed names written =
      let a : Assignment = assignment_of e in
      let goals : List Assignment = g ∷ h ∷ [] in
      let cut = both_parts (pairs_at true a (goal_met true l.stands goals a)) (all_pairs true l.stands goals (map assignment_of es)) xs pairs in
      let meet = list_parts (λ (x : Pair). leaf_meets (machine_of c.d) (target_of c.t) l.stands l.pairs x.leaf x.part) cut.0 cut.1
      (subst (λ ys. list_all (λ (x : Pair). leaf_meets (machine_of c.d) (target_of c.t) l.stands l.pairs x.leaf x.part) ys ≡ true) (sym cut.4) leaves) in
      let allows = and_both (is_allowed (machine_of c.d) true l.stands goals a) (list_all (is_allowed (machine_of c.d) true l.stands goals) (map assignment_of es)) allowed in
      go (meets true l.stands g.to a.to) refl (meets true l.stands h.to a.to) refl links counters (sym (counted true l.stands g e es) ∙ one) (sym (counted true l.stands h e es) ∙ two) cut.0 cut.2 meet.0 allows.0
      (λ ls cs first second. call_effects es ls cs cut.1 first second cut.3 meet.1 allows.1 names.1
      (λ number any. written number (or_right (writes_operand number a.to) (list_any (λ (a : Assignment). writes_operand number a.to) (map assignment_of es)) any)))
    where
      here : (space number : ℕ) → e.to ≡ dest.Reg (place.Operand space number) → is_written number l.form.assignments ≡ true
      here space number to =
          written number (or_left (writes_operand number (assignment_of e).to) (list_any (λ (a : Assignment). writes_operand number a.to) (map assignment_of es))
          (subst (λ (x : Dest). writes_operand number (destination_of x) ≡ true) (sym to) (itself number)))
        where
          itself : (n : ℕ) → nat_eq n n ≡ true
          itself n = grind arith

      go : (b : Bool) → meets true l.stands g.to (assignment_of e).to ≡ b → (d : Bool) → meets true l.stands h.to (assignment_of e).to ≡ d → (links counters : Bool) →
          cond b 1 0 + count_met true l.stands g es ≡ cond links 1 0 → cond d 1 0 + count_met true l.stands h es ≡ cond counters 1 0 → (ys : List Pair) →
          pairs_at true (assignment_of e) (cond b (Some g) (cond d (Some h) None)) ≡ Some ys → list_all (λ (x : Pair). leaf_meets (machine_of c.d) (target_of c.t) l.stands l.pairs x.leaf x.part) ys ≡ true →
          (is_there (cond b (Some g) (cond d (Some h) None)) || is_harmless (machine_of c.d) l.stands (assignment_of e)) ≡ true →
          ((ls cs : Bool) → count_met true l.stands g es ≡ cond ls 1 0 → count_met true l.stands h es ≡ cond cs 1 0 → CallEffects (IsRootFree c l) call ls cs es (record { operands = line_operands c l; after = c.after; state = s })) →
          CallEffects (IsRootFree c l) call links counters (e ∷ es) (record { operands = line_operands c l; after = c.after; state = s })
      go true is_g true is_h links counters one two ys here_pairs meet allow rest = absurd (apart (assignment_of e) is_g is_h)
      go true is_g false is_h false counters one two ys here_pairs meet allow rest = absurd (omega (arith, one))
      go true is_g false is_h true counters one two ys here_pairs meet allow rest =
          let both = half e f g (ToCell call.space call.index call.word) ys link own_link is_g here_pairs meet names.0 here in
          link_effect_more (IsRootFree c l) call counters e es (record { operands = line_operands c l; after = c.after; state = s }) both.0 both.1 (rest false counters (omega (arith, one)) (omega (arith, two)))
      go false is_g true is_h links false one two ys here_pairs meet allow rest = absurd (omega (arith, two))
      go false is_g true is_h links true one two ys here_pairs meet allow rest =
          let both = half e k h (ToCounter call.target) ys counter (λ q to. absurd (not_place q to)) is_h here_pairs meet names.0 here in
          counter_effect_more (IsRootFree c l) call links e es (record { operands = line_operands c l; after = c.after; state = s }) both.0 both.1 (rest links false (omega (arith, one)) (omega (arith, two)))
      go false is_g false is_h links counters one two ys here_pairs meet allow rest =
          free_effect_more (IsRootFree c l) call links counters e es (record { operands = line_operands c l; after = c.after; state = s })
          (root_free c is l suits s c.after (e ∷ []) (names.0, tt) (allow, tt)).0 (rest links counters (omega (arith, one)) (omega (arith, two)))
