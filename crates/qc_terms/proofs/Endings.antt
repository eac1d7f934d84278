-- The event of a list that shows one thing at most tells the ending of the state after it.
use Rattle.std.proofs.Common.{◌≡◌, ◌≤◌, ◌∙◌, ℕ, ◌+◌, suc, List, [], ◌∷◌, ◌++◌, Bool, true, false, refl, sym, ap, subst, arith}
use Rattle.std.specs.Prelude.{Option, None, Some, IfSome, option_and_then, ◌&&◌, if◌then◌else◌, nat_eq, nat_le, length, ◌/◌, count_by, cond}
use Rattle.std.specs.Option.{option_map}
use Rattle.std.proofs.lemmas.List.Sums.{sum_by-cons}
use Rattle.qc_terms.specs.declared.state.Event.{Event}
use Rattle.qc_terms.specs.declared.state.Event.TheVariants.{Quiet, Out, Ended, Trapped}
use Rattle.qc_terms.specs.declared.state.State.{State}
use Rattle.qc_terms.specs.declared.term.Dest.{Dest}
use Rattle.qc_terms.specs.declared.term.Dest.TheVariants as dest
use Rattle.qc_terms.specs.declared.term.Effect.{Effect}
use Rattle.qc_terms.specs.declared.term.Rtl.{Rtl}
use Rattle.qc_terms.specs.Cells.{with_cell}
use Rattle.qc_terms.specs.Effects.{Outcome, Write, ToCell, ToMemory, ToCounter, ToOutput, ToHalt, ToTrap, after_write, after_writes, before_writes, event_of, guard_of, input_is_over, outcome_of, outcome_of_event, outcome_of_trap, outcome_of_writes, rtl_has_input, store_at, write_of, writes_of, writes_of_effect}
use Rattle.qc_terms.specs.Observation.{ending_of}
use Rattle.qc_terms.specs.State.{is_zero_cell}
use Rattle.qc_terms.specs.Tree.{tree_of}
use Rattle.qc_terms.specs.Typing.{HasOneEvent, is_event}
use Rattle.qc_terms.specs.Value.{value_of}

-- how many writes are an output, an end or a trap
abbrev shown_by : List Write → ℕ
shown_by [] = 0
shown_by (ToCell space index word ∷ ws) = shown_by ws
shown_by (ToMemory address count word ∷ ws) = shown_by ws
shown_by (ToCounter word ∷ ws) = shown_by ws
shown_by (ToOutput word ∷ ws) = suc (shown_by ws)
shown_by (ToHalt code ∷ ws) = suc (shown_by ws)
shown_by (ToTrap code ∷ ws) = suc (shown_by ws)

shown_together : (xs ys : List Write) → shown_by (xs ++ ys) ≡ shown_by xs + shown_by ys
shown_together [] ys = omega arith
shown_together (ToCell space index word ∷ xs) ys = shown_together xs ys
shown_together (ToMemory address count word ∷ xs) ys = shown_together xs ys
shown_together (ToCounter word ∷ xs) ys = shown_together xs ys
shown_together (ToOutput word ∷ xs) ys = omega (arith, shown_together xs ys)
shown_together (ToHalt code ∷ xs) ys = omega (arith, shown_together xs ys)
shown_together (ToTrap code ∷ xs) ys = omega (arith, shown_together xs ys)

-- at most so many of the writes, if there are some
abbrev ShowsAtMost : ℕ → Option (List Write) → Type 0
ShowsAtMost n writes = IfSome writes (λ ws. shown_by ws ≤ n)

-- the write of a destination
abbrev WriteShows : ℕ → Option Write → Type 0
WriteShows n write = IfSome write (λ w. shown_by (w ∷ []) ≤ n)

store_shows : (inside : Bool) (address count word : ℕ) → WriteShows 0 (if inside then Some (ToMemory address count word) else None)
store_shows true address count word = omega arith
store_shows false address count word = tt

address_shows : (memory : List ℕ) (count word : ℕ) (address : Option ℕ) → WriteShows 0 (option_and_then (store_at memory count word) address)
address_shows memory count word None = tt
address_shows memory count word (Some address) = store_shows (nat_le (address + count) (length memory)) address count word

dest_shows : (to : Dest) (operands : List ℕ) (after : ℕ) (s : State) (word : ℕ) → WriteShows (cond (is_event to) 1 0) (write_of to operands after s word)
dest_shows (dest.Reg place) operands after s word = omega arith
dest_shows (dest.Mem width address) operands after s word = address_shows s.memory (width / 8) word (value_of (tree_of address) operands after s)
dest_shows dest.Pc operands after s word = omega arith
dest_shows dest.Out operands after s word = omega arith
dest_shows dest.Halt operands after s word = omega arith
dest_shows dest.Trap operands after s word = omega arith

value_shows : (to : Dest) (operands : List ℕ) (after : ℕ) (s : State) (value : Option ℕ) → WriteShows (cond (is_event to) 1 0) (option_and_then (write_of to operands after s) value)
value_shows to operands after s None = tt
value_shows to operands after s (Some word) = dest_shows to operands after s word

-- the writes of an effect
one_write : (n : ℕ) (write : Option Write) → WriteShows n write → ShowsAtMost n (option_map (λ w. w ∷ []) write)
one_write n None h = tt
one_write n (Some w) h = h

taken_shows : (skips : Bool) (n : ℕ) (write : Option Write) → WriteShows n write → ShowsAtMost n (if skips then Some [] else option_map (λ w. w ∷ []) write)
taken_shows true n write h = omega arith
taken_shows false n write h = one_write n write h

guarded_shows : (guard : Option ℕ) (n : ℕ) (write : Option Write) → WriteShows n write → ShowsAtMost n (option_and_then (λ g. if nat_eq g 0 then Some [] else option_map (λ w. w ∷ []) write) guard)
guarded_shows None n write h = tt
guarded_shows (Some g) n write h = taken_shows (nat_eq g 0) n write h

effect_shows : (e : Effect) (operands : List ℕ) (after : ℕ) (s : State) → ShowsAtMost (cond (is_event e.to) 1 0) (writes_of_effect e operands after s)
unfolding writes_of_effect
effect_shows e operands after s =
    guarded_shows (guard_of e.guard operands after s) _ _ (value_shows e.to operands after s (value_of (tree_of e.value) operands after s))

-- the writes of all effects
joined_show : (m n : ℕ) (first rest : Option (List Write)) → ShowsAtMost m first → ShowsAtMost n rest →
    ShowsAtMost (m + n) (option_and_then (λ f. option_map (λ r. f ++ r) rest) first)
joined_show m n None rest h k = tt
joined_show m n (Some f) None h k = tt
joined_show m n (Some f) (Some r) h k = omega (arith, h, k, shown_together f r)

abbrev shows_event : Effect → Bool
shows_event e = is_event e.to

writes_show : (es : List Effect) (operands : List ℕ) (after : ℕ) (s : State) → ShowsAtMost (count_by shows_event es) (writes_of es operands after s)
writes_show [] operands after s = omega arith
writes_show (e ∷ es) operands after s =
    subst (λ n. ShowsAtMost n (writes_of (e ∷ es) operands after s)) (sym (sum_by-cons (λ x. cond (shows_event x) 1 0) e es))
    (joined_show (cond (is_event e.to) 1 0) (count_by shows_event es) (writes_of_effect e operands after s) (writes_of es operands after s)
    (effect_shows e operands after s) (writes_show es operands after s))

-- a write to a cell leaves the ending
cell_leaves : (vanishes : Bool) (cells : List (List ℕ)) (s : State) → (if vanishes then s else record s { cells = cells }).ending ≡ s.ending
cell_leaves true cells s = refl
cell_leaves false cells s = refl

-- and so do all writes that show nothing
quiet_writes : (ws : List Write) (s : State) → shown_by ws ≤ 0 → (after_writes ws s).ending ≡ s.ending
quiet_writes [] s h = refl
quiet_writes (ToCell space index word ∷ ws) s h =
    quiet_writes ws (after_write (ToCell space index word) s) h
    ∙ cell_leaves (is_zero_cell s.facts.zero space index) (with_cell s.cells space index word) s
quiet_writes (ToMemory address count word ∷ ws) s h = quiet_writes ws (after_write (ToMemory address count word) s) h
quiet_writes (ToCounter word ∷ ws) s h = quiet_writes ws (after_write (ToCounter word) s) h
quiet_writes (ToOutput word ∷ ws) s h = absurd (omega (arith, h))
quiet_writes (ToHalt code ∷ ws) s h = absurd (omega (arith, h))
quiet_writes (ToTrap code ∷ ws) s h = absurd (omega (arith, h))

-- the ending of writes that show this event, where it is no trap
abbrev written_ending : Event → Option Event
written_ending Quiet = None
written_ending (Out word) = None
written_ending (Ended code) = Some (Ended code)
written_ending (Trapped code) = None

ending_after : (ws : List Write) (s : State) → shown_by ws ≤ 1 → s.ending ≡ None → (after_writes ws s).ending ≡ written_ending (event_of ws)
ending_after [] s h e = e
ending_after (ToCell space index word ∷ ws) s h e =
    ending_after ws (after_write (ToCell space index word) s) h
    (cell_leaves (is_zero_cell s.facts.zero space index) (with_cell s.cells space index word) s ∙ e)
ending_after (ToMemory address count word ∷ ws) s h e = ending_after ws (after_write (ToMemory address count word) s) h e
ending_after (ToCounter word ∷ ws) s h e = ending_after ws (after_write (ToCounter word) s) h e
ending_after (ToOutput word ∷ ws) s h e = quiet_writes ws s (omega (arith, h)) ∙ e
ending_after (ToHalt code ∷ ws) s h e = quiet_writes ws (after_write (ToHalt code) s) (omega (arith, h))
ending_after (ToTrap code ∷ ws) s h e = quiet_writes ws s (omega (arith, h)) ∙ e

-- the ending of an outcome is that of its event
abbrev TellsEnding : Outcome → Type 0
TellsEnding o = o.state.ending ≡ ending_of o.event

event_tells : (event : Event) (ws : List Write) (takes : Bool) (after : ℕ) (s : State) → event ≡ event_of ws → shown_by ws ≤ 1 → s.ending ≡ None →
    TellsEnding (outcome_of_event event ws takes after s)
event_tells Quiet ws takes after s same h e = ending_after ws (before_writes takes after s) h e ∙ ap written_ending (sym same)
event_tells (Out word) ws takes after s same h e = ending_after ws (before_writes takes after s) h e ∙ ap written_ending (sym same)
event_tells (Ended code) ws takes after s same h e = ending_after ws (before_writes takes after s) h e ∙ ap written_ending (sym same)
event_tells (Trapped code) ws takes after s same h e = refl

writes_tell : (writes : Option (List Write)) (takes : Bool) (after : ℕ) (s : State) → ShowsAtMost 1 writes → s.ending ≡ None →
    TellsEnding (outcome_of_writes writes takes after s)
writes_tell None takes after s h e = refl
writes_tell (Some ws) takes after s h e = event_tells (event_of ws) ws takes after s refl h e

few_writes : (n : ℕ) (writes : Option (List Write)) → ShowsAtMost n writes → n ≤ 1 → ShowsAtMost 1 writes
few_writes n None h few = tt
few_writes n (Some ws) h few = omega (arith, h, few)

rtl_tells : (over : Bool) (rtl : Rtl) (operands : List ℕ) (after : ℕ) (s : State) → HasOneEvent rtl → s.ending ≡ None →
    TellsEnding (if over then outcome_of_trap 5 s else outcome_of_writes (writes_of rtl.effects operands after s) (rtl_has_input rtl) after s)
rtl_tells true rtl operands after s one e = refl
rtl_tells false rtl operands after s one e =
    writes_tell (writes_of rtl.effects operands after s) (rtl_has_input rtl) after s
    (few_writes _ _ (writes_show rtl.effects operands after s) one) e

pub told_ending : (rtl : Rtl) (operands : List ℕ) (after : ℕ) (s : State) → HasOneEvent rtl → s.ending ≡ None →
    (outcome_of rtl operands after s).state.ending ≡ ending_of (outcome_of rtl operands after s).event
told_ending rtl operands after s one e = rtl_tells (rtl_has_input rtl && input_is_over s) rtl operands after s one e
