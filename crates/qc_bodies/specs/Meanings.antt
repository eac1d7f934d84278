-- What expressions, effects and all that is declared come to, over any way to make values.
use Rattle.std.specs.Prelude.{ℕ, nat_eq, if◌then◌else◌, List, [], ◌∷◌, ◌++◌, length, map, slice_get, Option, None, Some}
use Rattle.std.specs.List.{flat_map}
use Rattle.std.specs.Option.{option_map}
use Rattle.qc_words.specs.declared.operator.Op.{Op}
use Rattle.qc_words.specs.Operators.{is_unary}
use Rattle.qc_bodies.specs.declared.act.Aim.{Aim}
use Rattle.qc_bodies.specs.declared.act.Aim.TheVariants as aim
use Rattle.qc_bodies.specs.declared.act.Target.{Target}
use Rattle.qc_bodies.specs.declared.tree.Callee.{Callee}
use Rattle.qc_bodies.specs.declared.tree.Callee.TheVariants as callee
use Rattle.qc_bodies.specs.declared.tree.Leaf as sort_of_leaf
use Rattle.qc_bodies.specs.declared.tree.Wrap as sort_of_wrap
use Rattle.qc_bodies.specs.Trees.{Core, Sort, one, many, Leaf, Absent, Param, Wrap, Operate, Use, Apply, none, more}
use Rattle.qc_bodies.specs.Law.Acts.{Goal, Act, Body, Assign, Uses, Function, Effects}
use Rattle.qc_bodies.specs.Law.Acts as acts

-- How values are made. Each has the token by which it is told.
pub record Algebra (V : Type 0) : Type 0 where
  pub leaf : ℕ → sort_of_leaf.Leaf → Option ℕ → V
  pub absent : ℕ → V
  pub wrap : ℕ → sort_of_wrap.Wrap → Option ℕ → V → V
  pub operate : ℕ → Op → List V → V

-- what a function is that is handed on: its value at a token for so many arguments
abbrev pub Fun : Type 0 → Type 0
Fun V = ℕ → List V → V

-- what an effect changes, with the address if it is memory; a register only where there is one
pub data Change (V : Type 0) : Type 0 where
  Pc : Change V
  Out : Change V
  Halt : Change V
  Trap : Change V
  Memory : (width : Option ℕ) → (address : V) → Change V
  Register : (target : Option Target) → Change V

-- One effect that is done: its guards, of which that of the outermost use is first, what it changes, and the value.
pub record Done (V : Type 0) : Type 0 where
  pub guards : List V
  pub to : Change V
  pub value : V

-- What is declared: a value, or effects, for what its parameters stand for. Those that are values have the registers that
-- they are beside them.
pub record Meaning (V : Type 0) : Type 0 where
  pub value : List (Fun V) → List V → V
  pub does : List (Fun V) → List (Option Target) → List V → List (Done V)

-- how many operands an operator has
abbrev pub operands_of : Op → ℕ
operands_of op = if is_unary op then 1 else 2

abbrev pub operated : {V : Type 0} → Algebra V → ℕ → Op → List V → V
operated a token op vs = if nat_eq (operands_of op) (length vs) then a.operate token op vs else a.absent token

abbrev pub value_or : {V : Type 0} → V → Option V → V
value_or v None = v
value_or v (Some w) = w

abbrev pub nowhere : {V : Type 0} → Algebra V → Fun V
nowhere a token vs = a.absent token

abbrev pub used : {V : Type 0} → Algebra V → ℕ → Option (Meaning V) → List (Fun V) → List V → V
used a token None fs vs = a.absent token
used a token (Some m) fs vs = m.value fs vs

-- A function that is handed on gets no functions itself.
abbrev pub fun_of : {V : Type 0} → Algebra V → List (Meaning V) → List (Fun V) → Callee → Fun V
fun_of a ms fs callee.Nowhere token vs = a.absent token
fun_of a ms fs (callee.Operator op) token vs = operated a token op vs
fun_of a ms fs (callee.Declared number) token vs = used a token (slice_get ms number) [] vs
fun_of a ms fs (callee.Given number) token vs = value_or (nowhere a) (slice_get fs number) token vs

-- what an expression comes to, or each of several
abbrev pub Val : Type 0 → Sort → Type 0
Val V one = V
Val V many = List V

-- where these are declared, and parameters stand for these functions and these values
abbrev pub value : {V : Type 0} {s : Sort} → Algebra V → List (Meaning V) → List (Fun V) → List V → Core s → Val V s
value a ms fs vs (Leaf token leaf width) = a.leaf token leaf width
value a ms fs vs (Absent token) = a.absent token
value a ms fs vs (Param number) = value_or (a.absent 0) (slice_get vs number)
value a ms fs vs (Wrap token wrap width part) = a.wrap token wrap width (value a ms fs vs part)
value a ms fs vs (Operate token op args) = operated a token op (value a ms fs vs args)
value a ms fs vs (Use token number callees args) =
    used a token (slice_get ms number) (map (fun_of a ms fs) callees) (value a ms fs vs args)
value a ms fs vs (Apply token number args) = value_or (nowhere a) (slice_get fs number) token (value a ms fs vs args)
value a ms fs vs none = []
value a ms fs vs (more e es) = value a ms fs vs e ∷ value a ms fs vs es

-- The register that an aim is, where parameters are these. A parameter's number may be that of none.
abbrev pub joined_option : {A : Type 0} → Option (Option A) → Option A
joined_option None = None
joined_option (Some o) = o

abbrev pub target_of : List (Option Target) → Aim → Option Target
target_of ts aim.Nowhere = None
target_of ts (aim.Fixed target) = Some target
target_of ts (aim.Given number) = joined_option (slice_get ts number)

abbrev pub change_of : {V : Type 0} → (Core one → V) → List (Option Target) → Goal → Change V
change_of of ts acts.Pc = Pc
change_of of ts acts.Out = Out
change_of of ts acts.Halt = Halt
change_of of ts acts.Trap = Trap
change_of of ts (acts.Memory width address) = Memory width (of address)
change_of of ts (acts.Register aim) = Register (target_of ts aim)

-- the effects under one guard more, if there is one
abbrev pub guarded : {V : Type 0} → V → Done V → Done V
guarded guard done = record { guards = guard ∷ done.guards; to = done.to; value = done.value }

abbrev pub under : {V : Type 0} → Option V → List (Done V) → List (Done V)
under None dones = dones
under (Some guard) dones = map (guarded guard) dones

abbrev pub uses : {V : Type 0} → Option (Meaning V) → List (Fun V) → List (Option Target) → List V → List (Done V)
uses None fs ts vs = []
uses (Some m) fs ts vs = m.does fs ts vs

-- what an effect, or the use of declared ones, does
abbrev pub done_of : {V : Type 0} → Algebra V → List (Meaning V) → List (Fun V) → List (Option Target) → List V → Act → List (Done V)
done_of a ms fs ts vs (Assign guard to of) =
    under (option_map (value a ms fs vs) guard) (record {
      guards = [];
      to = change_of (value a ms fs vs) ts to;
      value = value a ms fs vs of;
    } ∷ [])
done_of a ms fs ts vs (Uses guard number callees aims args) =
    under (option_map (value a ms fs vs) guard)
    (uses (slice_get ms number) (map (fun_of a ms fs) callees) (map (target_of ts) aims) (value a ms fs vs args))

abbrev pub all_done : {V : Type 0} → Algebra V → List (Meaning V) → List (Fun V) → List (Option Target) → List V → List Act → List (Done V)
all_done a ms fs ts vs acts = flat_map (done_of a ms fs ts vs) acts

-- What is declared after these. A function does nothing, and effects have no value.
abbrev pub meaning_of : {V : Type 0} → Algebra V → List (Meaning V) → Body → Meaning V
meaning_of a ms (Function e) = record { value = λ fs vs. value a ms fs vs e; does = λ fs ts vs. [] }
meaning_of a ms (Effects acts) = record {
  value = λ fs vs. a.absent 0;
  does = λ fs ts vs. all_done a ms fs ts vs acts;
}

abbrev pub meanings_after : {V : Type 0} → Algebra V → List (Meaning V) → List Body → List (Meaning V)
meanings_after a ms [] = ms
meanings_after a ms (body ∷ bodies) = meanings_after a (ms ++ meaning_of a ms body ∷ []) bodies

-- what all that is declared comes to, in order
abbrev pub meanings : {V : Type 0} → Algebra V → List Body → List (Meaning V)
meanings a bodies = meanings_after a [] bodies
