-- Statements that are still to do, one after another, with names as numbers.
use Rattle.std.specs.Prelude.{ℕ, Bool, false, nat_eq, if◌then◌else◌, List}
use Rattle.qc_programs.specs.Values.{Expression}

-- Variables are named by their places in the procedure, procedures by theirs in the program, and a label by a number that it
-- alone has in the program.
pub data Action : Type 0 where
  Assign : (target : ℕ) (value : Expression) → Action
  Input : (target : ℕ) → Action
  Output : (value : Expression) → Action
  -- a word of so many bytes goes to an address
  Store : (count : ℕ) (address value : Expression) → Action
  Label : (number : ℕ) → Action
  Goto : (label : ℕ) → Action
  Call : (targets : List ℕ) (callee : ℕ) (args : List Expression) → Action
  Return : (results : List Expression) → Action

-- A list of statements, in which the rest is a part of its first one.
pub data Todo : Type 0 where
  Nothing : Todo
  Do : (action : Action) (rest : Todo) → Todo
  -- without an `else` there is nothing to do otherwise
  If : (condition : Expression) (block otherwise rest : Todo) → Todo

-- first a block, and then the rest
abbrev pub then_do : Todo → Todo → Todo
then_do Nothing rest = rest
then_do (Do action more) rest = Do action (then_do more rest)
then_do (If condition block otherwise more) rest = If condition block otherwise (then_do more rest)

abbrev pub is_label : ℕ → Action → Bool
is_label label (Label number) = nat_eq label number
is_label label _ = false

-- a body from a label on; labels stand at the level of the body alone
abbrev pub from_label : ℕ → Todo → Todo
from_label label Nothing = Nothing
from_label label (Do action rest) = if is_label label action then Do action rest else from_label label rest
from_label label (If condition block otherwise rest) = from_label label rest
