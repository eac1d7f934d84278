-- The steps of a machine.
use Rattle.std.specs.Prelude.{ℕ, zero, suc, ◌≡◌, ◌+◌, ◌%◌, ◌^◌, ◌⊎◌, List, [], ◌++◌, length, drop, Option, None, Some}
use Rattle.qc_terms.specs.declared.state.Event.{Event}
use Rattle.qc_terms.specs.declared.state.State.{State}
use Rattle.qc_terms.specs.Effects.{Outcome, outcome_of, outcome_of_trap}
use Rattle.qc_terms.specs.Observation.{Observation, words_of}
use Rattle.qc_descr.specs.declared.description.Description.{Description}
use Rattle.qc_descr.specs.Encoding.{Encodes}
use Rattle.qc_descr.specs.Valid.{IsValid}

-- an instance at an address encodes to a prefix of the memory from there
pub record EncodesAt (d : Description) (memory : List ℕ) (at number : ℕ) (operands bytes : List ℕ) : Type 0 where
  pub encodes : Encodes d at number operands bytes
  pub more : List ℕ
  pub prefix : drop at memory ≡ bytes ++ more

-- at most one instance of a valid description encodes to a prefix of the memory from an address
abbrev pub OneInstance : Type 0
OneInstance =
    (d : Description) (memory : List ℕ) (at m n : ℕ) (xs ys bytes others : List ℕ) → IsValid d
    → EncodesAt d memory at m xs bytes → EncodesAt d memory at n ys others → (m ≡ n) × (xs ≡ ys) × (bytes ≡ others)

-- the address after the bytes of an instance
abbrev pub address_after : State → List ℕ → ℕ
address_after s bytes = (s.pc + length bytes) % 2 ^ s.facts.word

-- The machine stands at an instance, and does what that one's register transfer list says.
pub record StepsBy (d : Description) (s : State) (o : Outcome) : Type 0 where
  pub number : ℕ
  pub operands : List ℕ
  pub bytes : List ℕ
  pub stands : EncodesAt d s.memory s.pc number operands bytes
  pub is : o ≡ outcome_of stands.encodes.instruction.rtl operands (address_after s bytes) s

-- no instance encodes to a prefix of the memory there
abbrev pub IsUndecodable : Description → List ℕ → ℕ → Type 0
IsUndecodable d memory at = (number : ℕ) (operands bytes : List ℕ) → EncodesAt d memory at number operands bytes → ⊥

-- a step of a machine that has ended with an event, or goes on
abbrev pub StepsFrom : Option Event → Description → State → Outcome → Type 0
StepsFrom (Some event) d s o = o ≡ record { state = s; event = event }
StepsFrom None d s o = StepsBy d s o ⊎ (IsUndecodable d s.memory s.pc × (o ≡ outcome_of_trap 4 s))

-- One step: a machine that has ended stays, with the event of its end. One that goes on executes the instance that
-- it stands at, or traps with code 4 where there is none.
abbrev pub Steps : Description → State → Outcome → Type 0
Steps d s o = StepsFrom s.ending d s o

-- a state of a run, and the words put out so far
pub record Progress : Type 0 where
  pub state : State
  pub output : List ℕ

-- what can be seen of a run that has come this far
abbrev pub observation_of : Progress → Observation
observation_of p = record { output = p.output; ending = p.state.ending }

-- after one more step
pub record Advances (d : Description) (p q : Progress) : Type 0 where
  pub event : Event
  pub step : Steps d p.state (record { state = q.state; event = event })
  pub output : q.output ≡ p.output ++ words_of event

-- where the machine is after n steps from a state
abbrev pub RunsTo : Description → State → ℕ → Progress → Type 0
RunsTo d s zero p = p ≡ record { state = s; output = [] }
RunsTo d s (suc n) p = (q : Progress) × RunsTo d s n q × Advances d q p
