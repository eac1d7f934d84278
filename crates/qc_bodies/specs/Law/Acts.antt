-- Effects and what is declared, over expressions.
use Rattle.std.specs.Prelude.{ℕ, List, map, Option}
use Rattle.std.specs.Option.{option_map}
use Rattle.qc_bodies.specs.declared.tree.Callee.{Callee}
use Rattle.qc_bodies.specs.declared.act.Aim.{Aim}
use Rattle.qc_bodies.specs.declared.act.Act as code
use Rattle.qc_bodies.specs.declared.act.Body as code_body
use Rattle.qc_bodies.specs.declared.act.Body.TheVariants as body
use Rattle.qc_bodies.specs.declared.act.Does as code_does
use Rattle.qc_bodies.specs.declared.act.Does.TheVariants as does
use Rattle.qc_bodies.specs.declared.act.Goal as code_goal
use Rattle.qc_bodies.specs.declared.act.Goal.TheVariants as goal
use Rattle.qc_bodies.specs.Trees.{Core, one, many, core_of, cores_of}

-- what an effect changes
pub data Goal : Type 0 where
  Pc : Goal
  Out : Goal
  Halt : Goal
  Trap : Goal
  Memory : (width : Option ℕ) → (address : Core one) → Goal
  Register : (aim : Aim) → Goal

-- One effect, or the use of declared ones with what its arguments are, where the guard holds, if there is one.
pub data Act : Type 0 where
  Assign : (guard : Option (Core one)) → (to : Goal) → (value : Core one) → Act
  Uses : (guard : Option (Core one)) → (number : ℕ) → (callees : List Callee) → (aims : List Aim) → (args : Core many) → Act

-- a function by its value, or effects
pub data Body : Type 0 where
  Function : (value : Core one) → Body
  Effects : (acts : List Act) → Body

-- what the code's types are
abbrev pub goal_of : code_goal.Goal → Goal
goal_of goal.Pc = Pc
goal_of goal.Out = Out
goal_of goal.Halt = Halt
goal_of goal.Trap = Trap
goal_of (goal.Memory width address) = Memory width (core_of address)
goal_of (goal.Register aim) = Register aim

abbrev pub act_under : Option (Core one) → code_does.Does → Act
act_under guard (does.Assign to value) = Assign guard (goal_of to) (core_of value)
act_under guard (does.Use number callees aims args) = Uses guard number callees aims (cores_of args)

abbrev pub act_of : code.Act → Act
act_of act = act_under (option_map core_of act.guard) act.does

abbrev pub body_of : code_body.Body → Body
body_of (body.Function value) = Function (core_of value)
body_of (body.Effects acts) = Effects (map act_of acts)
