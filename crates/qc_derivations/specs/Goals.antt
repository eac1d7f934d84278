-- What a node of a derivation is to compute, and what laws make of it.
use Rattle.std.specs.Prelude.{ℕ, Bool, true, false, List, [], ◌∷◌, nat_eq, slice_get, slice_set, Option, None, Some, option_and_then, if◌then◌else◌}
use Rattle.std.specs.Option.{option_map}
use Rattle.qc_terms.specs.declared.term.Place.TheVariants.{Cell, Operand}
use Rattle.qc_terms.specs.Tree.{Tree}
use Rattle.qc_equations.specs.declared.names.Law.{Law}
use Rattle.qc_equations.specs.Steps.{rewritten}
use Rattle.qc_derivations.specs.Machine.{Assignment, Destination, ToPlace, ToMemory}

-- A child computes a value, into a register of its own or into a flag. The root does what the tile does.
pub data Need : Type 0 where
  InRegister : (value : Tree) → Need
  InFlag : (space index : ℕ) (value : Tree) → Need
  AsTile : (assignments : List Assignment) → Need

abbrev pub is_root : Need → Bool
is_root (InRegister value) = false
is_root (InFlag space index value) = false
is_root (AsTile assignments) = true

-- a value without a guard
abbrev pub gets : Destination → Tree → Assignment
gets to value = record { guard = None; to = to; value = value }

-- What is to be done, as assignments. A register operand is the register that is the node's own, which in a tile is its
-- first register parameter.
abbrev pub goals_of : Need → List Assignment
goals_of (InRegister value) = gets (ToPlace (Operand 0 0)) value ∷ []
goals_of (InFlag space index value) = gets (ToPlace (Cell space index)) value ∷ []
goals_of (AsTile assignments) = assignments

-- ---- laws

abbrev pub with_guard : Law → List ℕ → Assignment → Option Assignment
with_guard law place a = option_map (λ g. record a { guard = Some g }) (option_and_then (rewritten law place) a.guard)

abbrev pub with_destination : Law → List ℕ → Destination → Option Destination
with_destination law place (ToMemory width address) = option_map (ToMemory width) (rewritten law place address)
with_destination law place _ = None

abbrev pub with_address : Law → List ℕ → Assignment → Option Assignment
with_address law place a = option_map (λ to. record a { to = to }) (with_destination law place a.to)

abbrev pub with_value : Law → List ℕ → Assignment → Option Assignment
with_value law place a = option_map (λ v. record a { value = v }) (rewritten law place a.value)

-- an assignment where a law is used in its guard (part 0), its address (1) or its value (2)
abbrev pub with_part : Law → ℕ → List ℕ → Assignment → Option Assignment
with_part law part place a =
    if nat_eq part 0 then with_guard law place a
    else (if nat_eq part 1 then with_address law place a else (if nat_eq part 2 then with_value law place a else None))

-- The assignments where a law is used at a place: the number of an assignment, the number of its part, and a place in that.
abbrev pub with_place : Law → List ℕ → List Assignment → Option (List Assignment)
with_place law [] goals = None
with_place law (number ∷ []) goals = None
with_place law (number ∷ part ∷ place) goals =
    option_map (slice_set goals number) (option_and_then (with_part law part place) (slice_get goals number))

-- a place in a child's value is one in the value of its one assignment
abbrev pub whole_place : Bool → List ℕ → List ℕ
whole_place true place = place
whole_place false place = 0 ∷ 2 ∷ place

-- the assignments after some steps, each a law and a place
abbrev pub goals_after : Bool → List (Law × List ℕ) → List Assignment → Option (List Assignment)
goals_after root [] goals = Some goals
goals_after root (step ∷ steps) goals =
    option_and_then (goals_after root steps) (with_place step.0 (whole_place root step.1) goals)
