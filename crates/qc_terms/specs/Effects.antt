-- What a register transfer list does to a state. First everything is read: each guard, and the address and the value of
-- each effect whose guard is true. Only then are these effects written, in the order of the list, so that the later of
-- two on one place stays.
use Rattle.std.specs.Prelude.{ℕ, ◌+◌, ◌/◌, List, [], ◌∷◌, ◌++◌, length, Option, None, Some, option_and_then, Bool, false, ◌||◌, ◌&&◌, if◌then◌else◌, nat_eq, nat_le}
use Rattle.std.specs.List.{list_any}
use Rattle.std.specs.Option.{option_map}
use Rattle.qc_terms.specs.declared.state.Event.{Event}
use Rattle.qc_terms.specs.declared.state.Event.TheVariants.{Quiet, Out, Ended, Trapped}
use Rattle.qc_terms.specs.declared.state.State.{State}
use Rattle.qc_terms.specs.declared.term.Dest.{Dest}
use Rattle.qc_terms.specs.declared.term.Dest.TheVariants as dest
use Rattle.qc_terms.specs.declared.term.Effect.{Effect}
use Rattle.qc_terms.specs.declared.term.Rtl.{Rtl}
use Rattle.qc_terms.specs.declared.term.Term.{Term}
use Rattle.qc_terms.specs.Cells.{with_cell}
use Rattle.qc_terms.specs.Memory.{store_of}
use Rattle.qc_terms.specs.State.{is_zero_cell}
use Rattle.qc_terms.specs.Tree.{tree_of, has_input}
use Rattle.qc_terms.specs.Value.{value_of, space_of, index_of}

-- a write that is to take place, with all that it needs read already
pub data Write : Type 0 where
  ToCell : (space index word : ℕ) → Write
  ToMemory : (address count word : ℕ) → Write
  ToCounter : (word : ℕ) → Write
  ToOutput : (word : ℕ) → Write
  ToHalt : (code : ℕ) → Write
  ToTrap : (code : ℕ) → Write

-- the store of so many bytes at an address; none unless all of them are inside the memory
abbrev pub store_at : List ℕ → (count word address : ℕ) → Option Write
store_at memory count word address =
    if nat_le (address + count) (length memory) then Some (ToMemory address count word) else None

-- the write of a word; none where a store has no address, or isn't wholly inside the memory
abbrev pub write_of : Dest → List ℕ → ℕ → State → ℕ → Option Write
write_of (dest.Reg place) operands after s word = Some (ToCell (space_of place) (index_of place operands) word)
write_of (dest.Mem width address) operands after s word =
    option_and_then (store_at s.memory (width / 8) word) (value_of (tree_of address) operands after s)
write_of dest.Pc operands after s word = Some (ToCounter word)
write_of dest.Out operands after s word = Some (ToOutput word)
write_of dest.Halt operands after s word = Some (ToHalt word)
write_of dest.Trap operands after s word = Some (ToTrap word)

-- an effect without a guard always takes place
abbrev pub guard_of : Option Term → List ℕ → ℕ → State → Option ℕ
guard_of None operands after s = Some 1
guard_of (Some guard) operands after s = value_of (tree_of guard) operands after s

-- the write of an effect, if its guard is true; none where what is needed has no value
unfoldable pub writes_of_effect : Effect → List ℕ → ℕ → State → Option (List Write)
writes_of_effect e operands after s =
    option_and_then
    (λ guard. if nat_eq guard 0 then Some [] else
    option_map (λ write. write ∷ [])
    (option_and_then (write_of e.to operands after s) (value_of (tree_of e.value) operands after s)))
    (guard_of e.guard operands after s)

-- the writes of all effects in order; none where one of them needs what has no value
abbrev pub writes_of : List Effect → List ℕ → ℕ → State → Option (List Write)
writes_of [] operands after s = Some []
writes_of (e ∷ es) operands after s =
    option_and_then (λ first. option_map (λ rest. first ++ rest) (writes_of es operands after s))
    (writes_of_effect e operands after s)

-- the state after a write; a write to the zero cell vanishes
abbrev pub after_write : Write → State → State
after_write (ToCell space index word) s =
    if is_zero_cell s.facts.zero space index then s else record s { cells = with_cell s.cells space index word }
after_write (ToMemory address count word) s =
    record s { memory = store_of s.facts.order s.memory count address word }
after_write (ToCounter word) s = record s { pc = word }
after_write (ToOutput word) s = s
after_write (ToHalt code) s = record s { ending = Some (Ended code) }
after_write (ToTrap code) s = s

abbrev pub after_writes : List Write → State → State
after_writes [] s = s
after_writes (w ∷ ws) s = after_writes ws (after_write w s)

-- what the writes show; at most one of them is an output, an end or a trap
abbrev pub event_of : List Write → Event
event_of [] = Quiet
event_of (ToCell space index word ∷ ws) = event_of ws
event_of (ToMemory address count word ∷ ws) = event_of ws
event_of (ToCounter word ∷ ws) = event_of ws
event_of (ToOutput word ∷ ws) = Out word
event_of (ToHalt code ∷ ws) = Ended code
event_of (ToTrap code ∷ ws) = Trapped code

-- the state after a step, and what the step shows
pub record Outcome : Type 0 where
  pub state : State
  pub event : Event

-- a trap changes the ending alone
abbrev pub outcome_of_trap : ℕ → State → Outcome
outcome_of_trap code s = record { state = record s { ending = Some (Trapped code) }; event = Trapped code }

-- the state before the writes: the program counter is at the address after the instruction, and a word of the input
-- was taken if the list reads one
abbrev pub before_writes : Bool → ℕ → State → State
before_writes takes after s = record s { pc = after; taken = if takes then s.taken + 1 else s.taken }

-- the outcome of writes that show this event: all of them, unless it is a trap
abbrev pub outcome_of_event : Event → List Write → Bool → ℕ → State → Outcome
outcome_of_event (Trapped code) ws takes after s = outcome_of_trap code s
outcome_of_event event ws takes after s = record { state = after_writes ws (before_writes takes after s); event = event }

-- the outcome of the writes that were read, or of none, where something that is needed has no value
abbrev pub outcome_of_writes : Option (List Write) → Bool → ℕ → State → Outcome
outcome_of_writes None takes after s = outcome_of_trap 1 s
outcome_of_writes (Some ws) takes after s = outcome_of_event (event_of ws) ws takes after s

-- a destination's address, if it has one, reads the input
abbrev pub dest_has_input : Dest → Bool
dest_has_input (dest.Mem width address) = has_input (tree_of address)
dest_has_input _ = false

abbrev pub guard_has_input : Option Term → Bool
guard_has_input None = false
guard_has_input (Some guard) = has_input (tree_of guard)

unfoldable pub effect_has_input : Effect → Bool
effect_has_input e = guard_has_input e.guard || (dest_has_input e.to || has_input (tree_of e.value))

-- the next word of the input stands in some effect, also in one whose guard is false
abbrev pub rtl_has_input : Rtl → Bool
rtl_has_input rtl = list_any effect_has_input rtl.effects

-- the words of the input are all taken
abbrev pub input_is_over : State → Bool
input_is_over s = nat_le (length s.input) s.taken

-- The effect of a register transfer list. One that reads the input at its end traps before anything else.
abbrev pub outcome_of : Rtl → List ℕ → ℕ → State → Outcome
outcome_of rtl operands after s =
    if rtl_has_input rtl && input_is_over s then outcome_of_trap 5 s
    else outcome_of_writes (writes_of rtl.effects operands after s) (rtl_has_input rtl) after s
