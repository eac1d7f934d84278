-- Where an instruction meets what a node is to compute: the parts of the goal at the leaves of the instruction's terms.
use Rattle.std.specs.Prelude.{ℕ, Bool, true, false, ◌&&◌, List, [], ◌∷◌, ◌++◌, nat_eq, slice_get, Option, None, Some, option_and_then, if◌then◌else◌}
use Rattle.std.specs.List.{find}
use Rattle.std.specs.Option.{option_map, option_or}
use Rattle.qc_words.specs.declared.operator.Op.{Op}
use Rattle.qc_terms.specs.declared.term.Place.{Place}
use Rattle.qc_terms.specs.declared.term.Place.TheVariants.{Cell, Operand}
use Rattle.qc_terms.specs.Tree.{Tree, Number, Unary, Binary, Register, Immediate, Load, NextInput, AddressAfter}
use Rattle.qc_equations.specs.Matching.{same_op}
use Rattle.qc_derivations.specs.declared.derivation.Leaf.{Leaf}
use Rattle.qc_derivations.specs.declared.derivation.Leaf.TheVariants as leaf
use Rattle.qc_derivations.specs.Forest.{Stand, Own, Child}
use Rattle.qc_derivations.specs.Machine.{Assignment, Destination, ToPlace, ToMemory, ToCounter, ToOutput, ToHalt, ToTrap}
use Rattle.qc_derivations.specs.Same.{is_address_after, is_next_input, is_number, same_place}

-- a leaf of an instruction's term, and the part of the goal that stands there
pub record Pair : Type 0 where
  pub leaf : Leaf
  pub part : Tree

abbrev pub pair : Leaf → Tree → List Pair
pair l part = record { leaf = l; part = part } ∷ []

-- both lists, one after the other, if both are there
abbrev pub both : {A : Type 0} → Option (List A) → Option (List A) → Option (List A)
both first second = option_and_then (λ xs. option_map (λ ys. xs ++ ys) second) first

-- no pairs, if the test holds
abbrev pub none_if : Bool → Option (List Pair)
none_if test = if test then Some [] else None

-- the operand of a tree that has the operator at its root
abbrev pub operand_of : Op → Tree → Option Tree
operand_of op (Unary o arg) = if same_op op o then Some arg else None
operand_of op _ = None

abbrev pub operands_of : Op → Tree → Option (Tree × Tree)
operands_of op (Binary o left right) = if same_op op o then Some (left, right) else None
operands_of op _ = None

-- the address of a load of this width
abbrev pub address_of : ℕ → Tree → Option Tree
address_of width (Load w address) = if nat_eq width w then Some address else None
address_of width _ = None

abbrev pub is_any_number : Tree → Bool
is_any_number (Number value width) = true
is_any_number _ = false

-- an operator over an immediate, where a number stands
abbrev pub extended : Op → Tree → Tree → Option (List Pair)
extended op (Immediate operand width) part =
    if is_any_number part then Some (pair (leaf.Extended op operand width) part) else None
extended op _ part = None

-- The pairs of a term of an instruction and a tree, where operators, widths and numbers agree. The address after the
-- instruction is met at the root alone.
abbrev pub pairs_of : Bool → Tree → Tree → Option (List Pair)
pairs_of root (Number value width) t = none_if (is_number value width t)
pairs_of root (Unary op arg) t = option_or (extended op arg t) (option_and_then (pairs_of root arg) (operand_of op t))
pairs_of root (Binary op left right) t =
    option_and_then (λ p. both (pairs_of root left p.0) (pairs_of root right p.1)) (operands_of op t)
pairs_of root (Register place width) t = Some (pair (leaf.Register place width) t)
pairs_of root (Immediate operand width) t = Some (pair (leaf.Immediate operand width) t)
pairs_of root (Load width address) t = option_and_then (pairs_of root address) (address_of width t)
pairs_of root (NextInput width) t = none_if (is_next_input width t)
pairs_of root (AddressAfter width) t = none_if (root && is_address_after width t)

-- a guard meets a guard, and none meets none
abbrev pub guard_pairs : Bool → Option Tree → Option Tree → Option (List Pair)
guard_pairs root None None = Some []
guard_pairs root (Some guard) (Some t) = pairs_of root guard t
guard_pairs root _ _ = None

-- destinations of one kind: stores meet in their widths and addresses
abbrev pub destination_pairs : Bool → Destination → Destination → Option (List Pair)
destination_pairs root (ToMemory width address) (ToMemory w t) = if nat_eq width w then pairs_of root address t else None
destination_pairs root _ _ = Some []

-- an assignment of an instruction, and the one to be done
abbrev pub assignment_pairs : Bool → Assignment → Assignment → Option (List Pair)
assignment_pairs root a goal =
    both (guard_pairs root a.guard goal.guard) (both (destination_pairs root a.to goal.to) (pairs_of root a.value goal.value))

-- ---- which assignment does what is to be done

-- The operand is the place of a goal: the node's own register, or one that a child has computed into it. At the root a
-- cell that the tile names is its own register too.
abbrev pub takes_goal : Bool → Place → Option Stand → Bool
takes_goal root (Operand space number) (Some Own) = true
takes_goal root (Operand space number) (Some Child) = true
takes_goal root (Cell space index) (Some Own) = root
takes_goal root (Cell space index) (Some Child) = root
takes_goal root place _ = false

abbrev pub is_place_of : Bool → List Stand → Place → Place → Bool
is_place_of root stands goal (Operand space number) = takes_goal root goal (slice_get stands number)
is_place_of root stands goal (Cell space index) = same_place goal (Cell space index)

-- the destination of an instruction's assignment is that of the goal, but for what stands at operands and addresses
abbrev pub meets : Bool → List Stand → Destination → Destination → Bool
meets root stands (ToPlace goal) (ToPlace place) = is_place_of root stands goal place
meets root stands (ToMemory w t) (ToMemory width address) = true
meets root stands ToCounter ToCounter = true
meets root stands ToOutput ToOutput = true
meets root stands ToHalt ToHalt = true
meets root stands ToTrap ToTrap = true
meets root stands _ _ = false

-- the first goal that the assignment meets
abbrev pub goal_met : Bool → List Stand → List Assignment → Assignment → Option Assignment
goal_met root stands goals a = find (λ goal. meets root stands goal.to a.to) goals

-- the pairs of an assignment and the goal that it meets; one that meets none has none
abbrev pub pairs_at : Bool → Assignment → Option Assignment → Option (List Pair)
pairs_at root a None = Some []
pairs_at root a (Some goal) = assignment_pairs root a goal

-- the pairs of an instruction and the goals
abbrev pub all_pairs : Bool → List Stand → List Assignment → List Assignment → Option (List Pair)
all_pairs root stands goals [] = Some []
all_pairs root stands goals (a ∷ others) =
    both (pairs_at root a (goal_met root stands goals a)) (all_pairs root stands goals others)
