-- The root's line does what the tile's only effect does, but for scratches and flags; and where a part traps the tile does.
use Rattle.std.proofs.Common.{◌≡◌, ◌∙◌, ◌⊎◌, ◌+◌, ◌≤◌, ◌/◌, ◌||◌, ◌&&◌, ℕ, List, [], ◌∷◌, ◌++◌, length, Bool, true, false, cond, Option, None, Some, nat_eq, nat_le, option_and_then, append-nil, if◌then◌else◌, inl, inr, refl, sym, ap, subst, arith}
use Rattle.std.specs.List.{list_any}
use Rattle.std.specs.Option.{option_map}
use Rattle.std.proofs.lemmas.Bool.{cases_Bool}
use Rattle.qc_terms.specs.declared.state.Event.{Event}
use Rattle.qc_terms.specs.declared.state.Event.TheVariants.{Ended, Out, Quiet, Trapped}
use Rattle.qc_terms.specs.declared.state.State.{State}
use Rattle.qc_terms.specs.declared.term.Dest.{Dest}
use Rattle.qc_terms.specs.declared.term.Dest.TheVariants as dest
use Rattle.qc_terms.specs.declared.term.Effect.{Effect}
use Rattle.qc_terms.specs.declared.term.Term.{Term}
use Rattle.qc_terms.specs.Effects.{Outcome, ToCell, ToCounter, ToHalt, ToMemory, ToOutput, ToTrap, Write, after_write, after_writes, before_writes, dest_has_input, effect_has_input, event_of, guard_has_input, guard_of, input_is_over, outcome_of, outcome_of_event, outcome_of_trap, outcome_of_writes, store_at, write_of, writes_of, writes_of_effect}
use Rattle.qc_terms.specs.Observation.{words_of}
use Rattle.qc_terms.specs.State.{is_zero_cell}
use Rattle.qc_terms.specs.Tree.{Tree, has_input, tree_of}
use Rattle.qc_descr.specs.Step.{Progress}
use Rattle.qc_tiles.specs.Sound.{GuardedHasValues, HasValue, guard_has_load, has_load, is_store}
use Rattle.qc_code.specs.Running.{with_outcome}
use Rattle.qc_code.specs.TileHolds.{DoesAs, is_flag_space}
use Rattle.qc_derivations.specs.Machine.{assignment_of, destination_of}
use Rattle.qc_soundness.proofs.ChildLine.{AllFree, any-append, writes-append}
use Rattle.qc_soundness.proofs.ChildStep.{same_or_other}
use Rattle.qc_soundness.proofs.LeafValues.{NodeLine, line_high, line_operands}
use Rattle.qc_soundness.proofs.LineEffects.{IsFreeCell, has_value}
use Rattle.qc_soundness.proofs.Optional.{or_left, or_right}
use Rattle.qc_soundness.proofs.Patterns.{Reading, value_at}
use Rattle.qc_soundness.proofs.RootLine.{GuardFaults, SomeTraps, ToFaults}
use Rattle.qc_soundness.proofs.RootStates.{AreNear, after-append, event-before, event-behind, free_near, writes_near}
use Rattle.qc_soundness.proofs.Scene.{IsOuter, IsScene, Scene, at_front}
use Rattle.qc_soundness.proofs.Writes.{AreKept, IsSpared}

-- ---- where the tile traps

-- some term of the effect has no value
abbrev pub GuardNone : Scene → Option Term → Type 0
GuardNone c None = ⊥
GuardNone c (Some g) = value_at (tree_of g) (at_front c) ≡ None

abbrev pub ToNone : Scene → Dest → Type 0
ToNone c (dest.Mem width address) = value_at (tree_of address) (at_front c) ≡ None
ToNone c other = ⊥

abbrev pub SomeNone : Scene → Effect → Type 0
SomeNone c f = GuardNone c f.guard ⊎ (ToNone c f.to ⊎ (value_at (tree_of f.value) (at_front c) ≡ None))

abbrev pub WhyTraps : Scene → ℕ → Effect → Type 0
WhyTraps c code f = ((code ≡ 5) × (effect_has_input f ≡ true) × (input_is_over c.start ≡ true)) ⊎ ((code ≡ 1) × SomeNone c f)

pub why_traps : (c : Scene) (code : ℕ) (f : Effect) → SomeTraps c code (assignment_of f) → WhyTraps c code f
unfolding effect_has_input
why_traps c code f (inl fault) = guard f.guard fault (λ is. or_left (guard_has_input f.guard) (dest_has_input f.to || has_input (tree_of f.value)) is) (λ none. inl none)
  where
    guard : (g : Option Term) → GuardFaults c code (option_map tree_of g) → (guard_has_input g ≡ true → effect_has_input f ≡ true) → (GuardNone c g → SomeNone c f) → WhyTraps c code f
    guard None fault reads none = absurd fault
    guard (Some g) (inl over) reads none = inl (over.0, reads over.1, over.2)
    guard (Some g) (inr nothing) reads none = inr (nothing.0, none nothing.1)
why_traps c code f (inr (inl fault)) =
    to f.to fault (λ is. or_right (guard_has_input f.guard) (dest_has_input f.to || has_input (tree_of f.value)) (or_left (dest_has_input f.to) (has_input (tree_of f.value)) is)) (λ none. inr (inl none))
  where
    to : (x : Dest) → ToFaults c code (destination_of x) → (dest_has_input x ≡ true → effect_has_input f ≡ true) → (ToNone c x → SomeNone c f) → WhyTraps c code f
    to (dest.Mem width address) (inl over) reads none = inl (over.0, reads over.1, over.2)
    to (dest.Mem width address) (inr nothing) reads none = inr (nothing.0, none nothing.1)
    to (dest.Reg p) fault reads none = absurd fault
    to dest.Pc fault reads none = absurd fault
    to dest.Out fault reads none = absurd fault
    to dest.Halt fault reads none = absurd fault
    to dest.Trap fault reads none = absurd fault
why_traps c code f (inr (inr (inl over))) =
    inl (over.0, or_right (guard_has_input f.guard) (dest_has_input f.to || has_input (tree_of f.value)) (or_right (dest_has_input f.to) (has_input (tree_of f.value)) over.1), over.2)
why_traps c code f (inr (inr (inr nothing))) = inr (nothing.0, inr (inr nothing.1))

no_value : (c : Scene) (t : Tree) → HasValue t → value_at t (at_front c) ≡ None → ⊥
no_value c t has none = let no : false ≡ true = ap is_there (sym none) ∙ has c.e.operands c.after c.start in cc no
  where
    is_there : Option ℕ → Bool
    is_there None = false
    is_there (Some v) = true

-- what has no value is not written
writes_none : (c : Scene) (g : Option Term) (x : Dest) (v : Term) → GuardedHasValues (record { guard = g; to = x; value = v }) → SomeNone c (record { guard = g; to = x; value = v }) →
    writes_of_effect (record { guard = g; to = x; value = v }) c.e.operands c.after c.start ≡ None
unfolding writes_of_effect
writes_none c (Some g) x v guarded (inl none) = absurd (no_value c (tree_of g) guarded.0 none)
writes_none c (Some g) (dest.Mem w a) v guarded (inr (inl none)) = absurd (no_value c (tree_of a) guarded.1 none)
writes_none c (Some g) (dest.Reg p) v guarded (inr (inl none)) = absurd none
writes_none c (Some g) dest.Pc v guarded (inr (inl none)) = absurd none
writes_none c (Some g) dest.Out v guarded (inr (inl none)) = absurd none
writes_none c (Some g) dest.Halt v guarded (inr (inl none)) = absurd none
writes_none c (Some g) dest.Trap v guarded (inr (inl none)) = absurd none
writes_none c (Some g) x v guarded (inr (inr none)) = absurd (no_value c (tree_of v) guarded.2 none)
writes_none c None x v guarded (inl none) = absurd none
writes_none c None (dest.Mem w a) v guarded (inr (inl none)) = ap (option_map (λ (y : Write). y ∷ [])) (go (value_at (tree_of v) (at_front c)))
  where
    go : (o : Option ℕ) → option_and_then (write_of (dest.Mem w a) c.e.operands c.after c.start) o ≡ None
    go None = refl
    go (Some word) = ap (option_and_then (store_at c.start.memory (w / 8) word)) none
writes_none c None (dest.Reg p) v guarded (inr (inl none)) = absurd none
writes_none c None dest.Pc v guarded (inr (inl none)) = absurd none
writes_none c None dest.Out v guarded (inr (inl none)) = absurd none
writes_none c None dest.Halt v guarded (inr (inl none)) = absurd none
writes_none c None dest.Trap v guarded (inr (inl none)) = absurd none
writes_none c None x v guarded (inr (inr none)) =
    ap (λ o. option_map (λ (y : Write). y ∷ []) (option_and_then (write_of x c.e.operands c.after c.start) o)) none

-- no memory is touched
pub record Untouching (f : Effect) : Type 0 where
  pub guard : guard_has_load f.guard ≡ false
  pub to : is_store f.to ≡ false
  pub value : has_load (tree_of f.value) ≡ false

none_untouching : (c : Scene) (f : Effect) → Untouching f → SomeNone c f → ⊥
none_untouching c f un (inl none) = guard f.guard un.guard none
  where
    guard : (g : Option Term) → guard_has_load g ≡ false → GuardNone c g → ⊥
    guard None no_load none = none
    guard (Some g) no_load none = let it = has_value c.e.operands c.after c.start (tree_of g) no_load in let no : None ≡ Some it.0 = sym none ∙ it.1 in cc no
none_untouching c f un (inr (inl none)) = to f.to un.to none
  where
    to : (x : Dest) → is_store x ≡ false → ToNone c x → ⊥
    to (dest.Mem width address) no_store none = cc no_store
    to (dest.Reg p) no_store none = none
    to dest.Pc no_store none = none
    to dest.Out no_store none = none
    to dest.Halt no_store none = none
    to dest.Trap no_store none = none
none_untouching c f un (inr (inr none)) =
    let it = has_value c.e.operands c.after c.start (tree_of f.value) un.value in let no : None ≡ Some it.0 = sym none ∙ it.1 in cc no

-- what touches no memory is written
writes_there : (c : Scene) (g : Option Term) (x : Dest) (v : Term) → Untouching (record { guard = g; to = x; value = v }) →
    (ws : List Write) × (writes_of_effect (record { guard = g; to = x; value = v }) c.e.operands c.after c.start ≡ Some ws)
unfolding writes_of_effect
writes_there c g x v un =
    let value = has_value c.e.operands c.after c.start (tree_of v) un.value in
    let written = write x un.to value.0 in
    let guard = test g un.guard in
    let one : Option (List Write) = Some (written.0 ∷ []) in
    let known : option_map (λ (y : Write). y ∷ []) (option_and_then (write_of x c.e.operands c.after c.start) (value_at (tree_of v) (at_front c))) ≡ one =
    ap (λ o. option_map (λ (y : Write). y ∷ []) (option_and_then (write_of x c.e.operands c.after c.start) o)) value.1 ∙ ap (option_map (λ (y : Write). y ∷ [])) written.1 in
    let whole : writes_of_effect (record { guard = g; to = x; value = v }) c.e.operands c.after c.start ≡ cond (nat_eq guard.0 0) (Some []) one =
    ap (λ o. option_and_then (λ n. cond (nat_eq n 0) (Some []) o) (guard_of g c.e.operands c.after c.start)) known ∙ ap (option_and_then (λ n. cond (nat_eq n 0) (Some []) one)) guard.1 in
    elim (cases_Bool (nat_eq guard.0 0)) [
      | inl zeros ↦ ([], whole ∙ ap (λ b. cond b (Some []) one) zeros)
      | inr some ↦ (written.0 ∷ [], whole ∙ ap (λ b. cond b (Some []) one) some)
    ]
  where
    write : (x : Dest) → is_store x ≡ false → (word : ℕ) → (w : Write) × (write_of x c.e.operands c.after c.start word ≡ Some w)
    write (dest.Reg p) no_store word = let it = write_of (dest.Reg p) c.e.operands c.after c.start word in known it refl
      where
        known : (o : Option Write) → write_of (dest.Reg p) c.e.operands c.after c.start word ≡ o → (w : Write) × (write_of (dest.Reg p) c.e.operands c.after c.start word ≡ Some w)
        known None same = absurd (cc same)
        known (Some w) same = (w, same)
    write (dest.Mem width address) no_store word = absurd (cc no_store)
    write dest.Pc no_store word = (ToCounter word, refl)
    write dest.Out no_store word = (ToOutput word, refl)
    write dest.Halt no_store word = (ToHalt word, refl)
    write dest.Trap no_store word = (ToTrap word, refl)

    test : (g : Option Term) → guard_has_load g ≡ false → (n : ℕ) × (guard_of g c.e.operands c.after c.start ≡ Some n)
    test None no_load = (1, refl)
    test (Some g) no_load = has_value c.e.operands c.after c.start (tree_of g) no_load

-- only an effect on a trap writes one
only_traps : (c : Scene) (g : Option Term) (x : Dest) (v : Term) (ws : List Write) (code : ℕ) → writes_of_effect (record { guard = g; to = x; value = v }) c.e.operands c.after c.start ≡ Some ws →
    event_of ws ≡ Trapped code → x ≡ dest.Trap
unfolding writes_of_effect
only_traps c g x v ws code are event = guard (guard_of g c.e.operands c.after c.start) are
  where
    of_write : (x : Dest) (word : ℕ) (o : Option Write) → write_of x c.e.operands c.after c.start word ≡ o → option_map (λ (y : Write). y ∷ []) o ≡ Some ws → event_of ws ≡ Trapped code → x ≡ dest.Trap
    of_write x word None same one event = absurd (cc one)
    of_write dest.Trap word (Some w) same one event = refl
    of_write (dest.Reg p) word (Some w) same one event = absurd (let whole : event_of (w ∷ []) ≡ Trapped code = subst (λ us. event_of us ≡ Trapped code) (let it : Some (w ∷ []) ≡ Some ws = one in let back : ws ≡ w ∷ [] = cc in back) event in cell w same whole)
      where
        cell : (w : Write) → write_of (dest.Reg p) c.e.operands c.after c.start word ≡ Some w → event_of (w ∷ []) ≡ Trapped code → ⊥
        cell (ToCell a b n) same event = cc event
        cell (ToMemory a b n) same event = cc event
        cell (ToCounter n) same event = cc event
        cell (ToOutput n) same event = cc event
        cell (ToHalt n) same event = cc event
        cell (ToTrap n) same event = cc same
    of_write (dest.Mem width address) word (Some w) same one event = absurd (let whole : event_of (w ∷ []) ≡ Trapped code = subst (λ us. event_of us ≡ Trapped code) (let it : Some (w ∷ []) ≡ Some ws = one in let back : ws ≡ w ∷ [] = cc in back) event in memory (value_at (tree_of address) (at_front c)) same whole)
      where
        memory : (o : Option ℕ) → option_and_then (store_at c.start.memory (width / 8) word) o ≡ Some w → event_of (w ∷ []) ≡ Trapped code → ⊥
        memory None same event = cc same
        memory (Some n) same event = by (nat_le (n + (width / 8)) (length c.start.memory)) same event
          where
            by : (b : Bool) → cond b (Some (ToMemory n (width / 8) word)) None ≡ Some w → event_of (w ∷ []) ≡ Trapped code → ⊥
            by false same event = cc same
            by true same event = let back : w ≡ ToMemory n (width / 8) word = cc in let no : Quiet ≡ Trapped code = ap (λ y. event_of (y ∷ [])) (sym back) ∙ event in cc no
    of_write dest.Pc word (Some w) same one event = absurd (let whole : event_of (w ∷ []) ≡ Trapped code = subst (λ us. event_of us ≡ Trapped code) (let it : Some (w ∷ []) ≡ Some ws = one in let back : ws ≡ w ∷ [] = cc in back) event in let is : Some (ToCounter word) ≡ Some w = same in let no : Quiet ≡ Trapped code = ap (λ y. event_of (y ∷ [])) (let it : ToCounter word ≡ w = cc in it) ∙ whole in cc no)
    of_write dest.Out word (Some w) same one event = absurd (let whole : event_of (w ∷ []) ≡ Trapped code = subst (λ us. event_of us ≡ Trapped code) (let it : Some (w ∷ []) ≡ Some ws = one in let back : ws ≡ w ∷ [] = cc in back) event in let is : Some (ToOutput word) ≡ Some w = same in let no : Out word ≡ Trapped code = ap (λ y. event_of (y ∷ [])) (let it : ToOutput word ≡ w = cc in it) ∙ whole in cc no)
    of_write dest.Halt word (Some w) same one event = absurd (let whole : event_of (w ∷ []) ≡ Trapped code = subst (λ us. event_of us ≡ Trapped code) (let it : Some (w ∷ []) ≡ Some ws = one in let back : ws ≡ w ∷ [] = cc in back) event in let is : Some (ToHalt word) ≡ Some w = same in let no : Ended word ≡ Trapped code = ap (λ y. event_of (y ∷ [])) (let it : ToHalt word ≡ w = cc in it) ∙ whole in cc no)

    value : (o : Option ℕ) → option_map (λ (y : Write). y ∷ []) (option_and_then (write_of x c.e.operands c.after c.start) o) ≡ Some ws → x ≡ dest.Trap
    value None one = absurd (cc one)
    value (Some word) one = of_write x word (write_of x c.e.operands c.after c.start word) refl one event

    guard : (o : Option ℕ) → option_and_then (λ n. cond (nat_eq n 0) (Some []) (option_map (λ (y : Write). y ∷ []) (option_and_then (write_of x c.e.operands c.after c.start) (value_at (tree_of v) (at_front c))))) o ≡ Some ws → x ≡ dest.Trap
    guard None are = absurd (cc are)
    guard (Some n) are = by (nat_eq n 0) are
      where
        by : (b : Bool) → cond b (Some []) (option_map (λ (y : Write). y ∷ []) (option_and_then (write_of x c.e.operands c.after c.start) (value_at (tree_of v) (at_front c)))) ≡ Some ws → x ≡ dest.Trap
        by true are = absurd (let back : ws ≡ [] = cc in let no : Quiet ≡ Trapped code = ap event_of (sym back) ∙ event in cc no)
        by false are = value (value_at (tree_of v) (at_front c)) are

-- ---- outcomes

abbrev pub outcome_with : Bool → Option (List Write) → ℕ → State → Outcome
outcome_with takes ws after s = if takes && input_is_over s then outcome_of_trap 5 s else outcome_of_writes ws takes after s

pub outcome_as : (es : List Effect) (r : Reading) (takes : Bool) (ws : Option (List Write)) → list_any effect_has_input es ≡ takes → writes_of es r.operands r.after r.state ≡ ws →
    outcome_of (record { effects = es }) r.operands r.after r.state ≡ outcome_with takes ws r.after r.state
outcome_as es r takes ws is are =
    ap (λ b. if b && input_is_over r.state then outcome_of_trap 5 r.state else outcome_of_writes (writes_of es r.operands r.after r.state) b r.after r.state) is
    ∙ ap (λ w. outcome_with takes w r.after r.state) are

or_nothing : (b : Bool) → (b || false) ≡ b
or_nothing true = refl
or_nothing false = refl

-- a tile of one effect whose part traps does so too
pub tile_traps : (c : Scene) (code : ℕ) (f : Effect) → GuardedHasValues f → (effect_has_input f ≡ true → Untouching f) → WhyTraps c code f →
    (outcome_of (record { effects = f ∷ [] }) c.e.operands c.after c.start ≡ outcome_of_trap code c.start) × ((code ≡ 5) ⊎ (effect_has_input f ≡ false))
tile_traps c code f guarded apart (inl over) = (
  outcome_as (f ∷ []) (at_front c) true (writes_of (f ∷ []) c.e.operands c.after c.start) (ap (λ b. b || false) over.1) refl
      ∙ ap (λ b. if b then outcome_of_trap 5 c.start else outcome_of_writes (writes_of (f ∷ []) c.e.operands c.after c.start) true c.after c.start) over.2
      ∙ ap (λ n. outcome_of_trap n c.start) (sym over.0),
  inl over.0,
)
tile_traps c code f guarded apart (inr none) = elim (cases_Bool (effect_has_input f)) [
  | inl reads ↦ absurd (none_untouching c f (apart reads) none.1)
  | inr quiet ↦ (
    outcome_as (f ∷ []) (at_front c) false None (ap (λ b. b || false) quiet)
        (ap (λ (o : Option (List Write)). option_and_then (λ (first : List Write). option_map (λ (rest : List Write). first ++ rest) (Some [])) o) (writes_none c f.guard f.to f.value guarded none.1))
        ∙ ap (λ n. outcome_of_trap n c.start) (sym none.0),
    inr quiet,
  )
]

-- ---- doing as the tile

abbrev pub Does : Scene → Outcome → Progress → Type 0
Does c o p = DoesAs c.d c.count c.e o p

pub does_trap : (c : Scene) (code : ℕ) (r : State) (p : Progress) → AreKept (IsOuter c) c.start r → r.taken ≡ c.start.taken → p.state ≡ record r { ending = Some (Trapped code) } → p.output ≡ [] →
    Does c (outcome_of_trap code c.start) p
does_trap c code r p kept taken is output =
    subst (λ (x : State). Does c (outcome_of_trap code c.start) (record { state = x; output = p.output })) (sym is)
    (record {
      state = record {
        facts = kept.facts;
        widths = kept.widths;
        rows = kept.rows;
        cells = λ space index keeps. kept.cells space index (record { flag = keeps.flag; scratch = λ here k below. keeps.scratch here k below });
        memory = kept.memory;
        input = kept.input;
        taken = taken;
        ending = refl;
      };
      pc = λ no. absurd (cc no);
      output = output;
    })

pub does_near : (c : Scene) (event : Event) (s u : State) (output : List ℕ) → AreNear (IsOuter c) s u → output ≡ words_of event → Does c (record { state = s; event = event }) (record { state = u; output = output })
does_near c event s u output near same = record {
  state = record {
    facts = near.kept.facts;
    widths = near.kept.widths;
    rows = near.kept.rows;
    cells = λ space index keeps. near.kept.cells space index (record { flag = keeps.flag; scratch = λ here k below. keeps.scratch here k below });
    memory = near.kept.memory;
    input = near.kept.input;
    taken = near.taken;
    ending = near.ending;
  };
  pc = λ running. near.pc;
  output = same;
}

-- writes leave the facts
pub facts_stay : (ws : List Write) (s : State) → (after_writes ws s).facts ≡ s.facts
facts_stay [] s = refl
facts_stay (ToCell a b word ∷ ws) s = facts_stay ws (after_write (ToCell a b word) s) ∙ go (is_zero_cell s.facts.zero a b) refl
  where
    go : (z : Bool) → is_zero_cell s.facts.zero a b ≡ z → (after_write (ToCell a b word) s).facts ≡ s.facts
    go true e = rw e refl
    go false e = rw e refl
facts_stay (ToMemory address count word ∷ ws) s = facts_stay ws (after_write (ToMemory address count word) s)
facts_stay (ToCounter word ∷ ws) s = facts_stay ws (after_write (ToCounter word) s)
facts_stay (ToOutput word ∷ ws) s = facts_stay ws s
facts_stay (ToHalt code ∷ ws) s = facts_stay ws (after_write (ToHalt code) s)
facts_stay (ToTrap code ∷ ws) s = facts_stay ws s

-- free cells of the root's line
abbrev pub IsRootFree : Scene → NodeLine → ℕ → ℕ → Type 0
IsRootFree c l = IsFreeCell c l c.d.allocatable 0

pub root_spared : (c : Scene) (l : NodeLine) (u : State) (x y a b : ℕ) → line_high c l ≤ c.count → u.facts ≡ c.d.facts → IsOuter c x y → IsRootFree c l a b → IsSpared u x y a b
root_spared c l u x y a b high facts outer (inl zeros) = inl (ap (λ f. is_zero_cell f.«zero» a b) facts ∙ zeros)
root_spared c l u x y a b high facts outer (inr (inl flag)) =
    inr (inl (λ same. let no : true ≡ false = sym flag.0 ∙ ap (is_flag_space c.d) (sym same) ∙ outer.flag in cc no))
root_spared c l u x y a b high facts outer (inr (inr mine)) = elim (same_or_other x c.d.allocatable) [
  | inl here ↦ inr (inr (λ same. outer.scratch here mine.1 (omega (arith, mine.3, high)) (same ∙ mine.4)))
  | inr there ↦ inr (inl (λ same. there (same ∙ mine.0)))
]

-- the line and the tile take the input alike, or a child has taken it
abbrev pub Takes : Scene → Bool → Bool → State → Type 0
Takes c line tile r =
    ((line ≡ tile) × (r.taken ≡ c.start.taken))
    ⊎ ((line ≡ false) × (tile ≡ true) × (r.taken ≡ c.start.taken + 1) × (input_is_over c.start ≡ false))

module _ (c : Scene) (is : IsScene c) (l : NodeLine) (high : line_high c l ≤ c.count) (before : List Effect) (this : Effect) (behind : List Effect) (f : Effect) (r : Progress)
    (kept : AreKept (IsOuter c) c.start r.state) (running : r.state.ending ≡ None) (running_first : c.start.ending ≡ None) (output : r.output ≡ [])
    (first : AllFree (IsRootFree c l) before (record { operands = line_operands c l; after = c.after; state = r.state }))
    (last : AllFree (IsRootFree c l) behind (record { operands = line_operands c l; after = c.after; state = r.state }))
    (same : writes_of_effect this (line_operands c l) c.after r.state ≡ writes_of_effect f c.e.operands c.after c.start)
    (takes : Takes c (effect_has_input this) (effect_has_input f) r.state) (apart : effect_has_input f ≡ true → Untouching f) (no_trap : f.to ≡ dest.Trap → effect_has_input f ≡ false) where
  -- the writes of both, as the tile's effect has them
  line_writes : (o : Option (List Write)) → writes_of_effect f c.e.operands c.after c.start ≡ o →
      writes_of (before ++ (this ∷ behind)) (line_operands c l) c.after r.state ≡ option_map (λ (w : List Write). first.writes ++ (w ++ last.writes)) o
  line_writes o are =
      writes-append before (this ∷ behind) (record { operands = line_operands c l; after = c.after; state = r.state }) first.writes first.are
      ∙ ap (λ (x : Option (List Write)). option_map (λ (m : List Write). first.writes ++ m) (option_and_then (λ (w : List Write). option_map (λ (m : List Write). w ++ m) (writes_of behind (line_operands c l) c.after r.state)) x)) (same ∙ are)
      ∙ ap (λ (y : Option (List Write)). option_map (λ (m : List Write). first.writes ++ m) (option_and_then (λ (w : List Write). option_map (λ (m : List Write). w ++ m) y) o)) last.are
      ∙ go o
    where
      go : (o : Option (List Write)) → option_map (λ (m : List Write). first.writes ++ m) (option_and_then (λ (w : List Write). option_map (λ (m : List Write). w ++ m) (Some last.writes)) o)
          ≡ option_map (λ (w : List Write). first.writes ++ (w ++ last.writes)) o
      go None = refl
      go (Some w) = refl

  tile_writes : (o : Option (List Write)) → writes_of_effect f c.e.operands c.after c.start ≡ o → writes_of (f ∷ []) c.e.operands c.after c.start ≡ o
  tile_writes o are = ap (λ (x : Option (List Write)). option_and_then (λ (w : List Write). option_map (λ (rest : List Write). w ++ rest) (Some [])) x) are ∙ go o
    where
      go : (o : Option (List Write)) → option_and_then (λ (w : List Write). option_map (λ (rest : List Write). w ++ rest) (Some [])) o ≡ o
      go None = refl
      go (Some w) = ap Some (append-nil w)

  line_takes : list_any effect_has_input (before ++ (this ∷ behind)) ≡ effect_has_input this
  line_takes = any-append before (this ∷ behind) first.quiet ∙ ap (λ b. effect_has_input this || b) last.quiet ∙ or_nothing (effect_has_input this)

  -- both write
  both_write : (line tile : Bool) (ws : List Write) → cond line (r.state.taken + 1) r.state.taken ≡ cond tile (c.start.taken + 1) c.start.taken →
      ((code : ℕ) → event_of ws ≡ Trapped code → r.state.taken ≡ c.start.taken) →
      Does c (outcome_of_writes (Some ws) tile c.after c.start) (with_outcome r (outcome_of_writes (Some (first.writes ++ (ws ++ last.writes))) line c.after r.state))
  both_write line tile ws counts trapped =
      subst (λ (e : Event). Does c (outcome_of_event (event_of ws) ws tile c.after c.start) (with_outcome r (outcome_of_event e (first.writes ++ (ws ++ last.writes)) line c.after r.state)))
      (sym (event-before (IsRootFree c l) first.writes (ws ++ last.writes) first.free ∙ event-behind (IsRootFree c l) ws last.writes last.free))
      (go (event_of ws) trapped)
    where
      near : AreNear (IsOuter c) (after_writes ws (before_writes tile c.after c.start)) (after_writes (first.writes ++ (ws ++ last.writes)) (before_writes line c.after r.state))
      near =
          let s : State = before_writes tile c.after c.start in
          let u : State = before_writes line c.after r.state in
          let begin : AreNear (IsOuter c) s u = record {
            kept = record { facts = kept.facts; widths = kept.widths; rows = kept.rows; cells = kept.cells; memory = kept.memory; input = kept.input };
            pc = refl;
            taken = counts;
            ending = running ∙ sym running_first;
          } in
          let one : AreNear (IsOuter c) s (after_writes first.writes u) = free_near (IsOuter c) (IsRootFree c l) first.writes s u
          (λ x y a b outer free. root_spared c l u x y a b high (kept.facts ∙ is.placed.state.facts) outer free) first.free begin in
          let two : AreNear (IsOuter c) (after_writes ws s) (after_writes ws (after_writes first.writes u)) = writes_near (IsOuter c) ws s (after_writes first.writes u) one in
          let three : AreNear (IsOuter c) (after_writes ws s) (after_writes last.writes (after_writes ws (after_writes first.writes u))) =
          free_near (IsOuter c) (IsRootFree c l) last.writes (after_writes ws s) (after_writes ws (after_writes first.writes u))
          (λ x y a b outer free. root_spared c l (after_writes ws (after_writes first.writes u)) x y a b high (two.kept.facts ∙ facts_stay ws s ∙ is.placed.state.facts) outer free) last.free two in
          subst (AreNear (IsOuter c) (after_writes ws s)) (sym (after-append first.writes (ws ++ last.writes) u ∙ after-append ws last.writes (after_writes first.writes u))) three

      go : (e : Event) → ((code : ℕ) → e ≡ Trapped code → r.state.taken ≡ c.start.taken) →
          Does c (outcome_of_event e ws tile c.after c.start) (with_outcome r (outcome_of_event e (first.writes ++ (ws ++ last.writes)) line c.after r.state))
      go (Trapped code) trapped = does_trap c code r.state (with_outcome r (outcome_of_trap code r.state)) kept (trapped code refl) refl (append-nil r.output ∙ output)
      go Quiet trapped = does_near c Quiet (after_writes ws (before_writes tile c.after c.start)) (after_writes (first.writes ++ (ws ++ last.writes)) (before_writes line c.after r.state)) (r.output ++ []) near (append-nil r.output ∙ output)
      go (Out word) trapped = does_near c (Out word) (after_writes ws (before_writes tile c.after c.start)) (after_writes (first.writes ++ (ws ++ last.writes)) (before_writes line c.after r.state)) (r.output ++ (word ∷ [])) near (ap (λ xs. xs ++ (word ∷ [])) output)
      go (Ended code) trapped = does_near c (Ended code) (after_writes ws (before_writes tile c.after c.start)) (after_writes (first.writes ++ (ws ++ last.writes)) (before_writes line c.after r.state)) (r.output ++ []) near (append-nil r.output ∙ output)

  -- where nothing traps for want of input
  both_come : (line tile : Bool) → effect_has_input f ≡ tile → Takes c line tile r.state → (o : Option (List Write)) → writes_of_effect f c.e.operands c.after c.start ≡ o →
      Does c (outcome_of_writes o tile c.after c.start) (with_outcome r (outcome_of_writes (option_map (λ (w : List Write). first.writes ++ (w ++ last.writes)) o) line c.after r.state))
  both_come line tile is_tile (inl alike) None are = does_trap c 1 r.state (with_outcome r (outcome_of_trap 1 r.state)) kept alike.1 refl (append-nil r.output ∙ output)
  both_come line tile is_tile (inl alike) (Some ws) are =
      both_write line tile ws (ap (λ b. cond b (r.state.taken + 1) r.state.taken) alike.0 ∙ ap (λ n. cond tile (n + 1) n) alike.1) (λ code event. alike.1)
  both_come line tile is_tile (inr child) None are =
      absurd (let it = writes_there c f.guard f.to f.value (apart (is_tile ∙ child.1)) in let no : None ≡ Some it.0 = sym are ∙ it.1 in cc no)
  both_come line tile is_tile (inr child) (Some ws) are =
      both_write line tile ws
      (ap (λ b. cond b (r.state.taken + 1) r.state.taken) child.0 ∙ child.2 ∙ ap (λ b. cond b (c.start.taken + 1) c.start.taken) (sym child.1))
      (λ code event. absurd (let no : true ≡ false = sym (is_tile ∙ child.1) ∙ no_trap (only_traps c f.guard f.to f.value ws code are event) in cc no))

  both_outcomes : (line tile : Bool) → effect_has_input f ≡ tile → Takes c line tile r.state → (o : Option (List Write)) → writes_of_effect f c.e.operands c.after c.start ≡ o →
      Does c (outcome_with tile o c.after c.start) (with_outcome r (outcome_with line (option_map (λ (w : List Write). first.writes ++ (w ++ last.writes)) o) c.after r.state))
  both_outcomes line tile is_tile (inr child) o are =
      subst (λ b. Does c (if b then outcome_of_trap 5 c.start else outcome_of_writes o tile c.after c.start) (with_outcome r (outcome_with line (option_map (λ (w : List Write). first.writes ++ (w ++ last.writes)) o) c.after r.state)))
      (sym (ap (λ b. b && input_is_over c.start) child.1 ∙ child.3))
      (subst (λ b. Does c (outcome_of_writes o tile c.after c.start) (with_outcome r (if b && input_is_over r.state then outcome_of_trap 5 r.state else outcome_of_writes (option_map (λ (w : List Write). first.writes ++ (w ++ last.writes)) o) line c.after r.state)))
      (sym child.0) (both_come line tile is_tile (inr child) o are))
  both_outcomes line tile is_tile (inl alike) o are =
      let over : input_is_over r.state ≡ input_is_over c.start = ap (λ xs. nat_le (length xs) r.state.taken) kept.input ∙ ap (λ n. nat_le (length c.start.input) n) alike.1 in
      subst (λ b. Does c (outcome_with tile o c.after c.start) (with_outcome r (if b then outcome_of_trap 5 r.state else outcome_of_writes (option_map (λ (w : List Write). first.writes ++ (w ++ last.writes)) o) line c.after r.state)))
      (sym (ap (λ b. b && input_is_over r.state) alike.0 ∙ ap (λ b. tile && b) over))
      (go (tile && input_is_over c.start))
    where
      go : (b : Bool) → Does c (if b then outcome_of_trap 5 c.start else outcome_of_writes o tile c.after c.start)
          (with_outcome r (if b then outcome_of_trap 5 r.state else outcome_of_writes (option_map (λ (w : List Write). first.writes ++ (w ++ last.writes)) o) line c.after r.state))
      go true = does_trap c 5 r.state (with_outcome r (outcome_of_trap 5 r.state)) kept alike.1 refl (append-nil r.output ∙ output)
      go false = both_come line tile is_tile (inl alike) o are

  pub root_does : Does c (outcome_of (record { effects = f ∷ [] }) c.e.operands c.after c.start)
      (with_outcome r (outcome_of (record { effects = before ++ (this ∷ behind) }) (line_operands c l) c.after r.state))
  root_does =
      let o : Option (List Write) = writes_of_effect f c.e.operands c.after c.start in
      let read : Reading = record { operands = line_operands c l; after = c.after; state = r.state } in
      subst (λ (x : Outcome). Does c x (with_outcome r (outcome_of (record { effects = before ++ (this ∷ behind) }) (line_operands c l) c.after r.state)))
      (sym (outcome_as (f ∷ []) (at_front c) (effect_has_input f) o (or_nothing (effect_has_input f)) (tile_writes o refl)))
      (subst (λ (x : Outcome). Does c (outcome_with (effect_has_input f) o c.after c.start) (with_outcome r x))
      (sym (outcome_as (before ++ (this ∷ behind)) read (effect_has_input this) (option_map (λ (w : List Write). first.writes ++ (w ++ last.writes)) o) line_takes (line_writes o refl)))
      (both_outcomes (effect_has_input this) (effect_has_input f) refl takes o refl))
