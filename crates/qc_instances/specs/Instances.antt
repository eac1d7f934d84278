-- What is declared for given functions: instances, whose parameters are values alone.
use Rattle.std.specs.Prelude.{ℕ, List, [], map, take, slice_get, if◌then◌else◌, nat_lt}
use Rattle.qc_bodies.specs.declared.tree.Callee.{Callee}
use Rattle.qc_bodies.specs.declared.tree.Callee.TheVariants as callee
use Rattle.qc_bodies.specs.Law.Acts.{Body, body_of}
use Rattle.qc_bodies.specs.Meanings.{Algebra, Fun, Meaning, fun_of, meanings, used, value, value_or}
use Rattle.qc_bodies.specs.Shapes.{AreFunctions}
use Rattle.qc_bodies.specs.Sizes.{AreForms, sizes}
use Rattle.qc_bodies.specs.Trees.{Core, one}
use Rattle.qc_bodies.specs.Written.{written}
use Rattle.qc_instances.specs.declared.instance.Declared.{Declared}
use Rattle.qc_instances.specs.declared.instance.Instance.{Instance}
use Rattle.qc_instances.specs.declared.instance.Site.{Site}
use Rattle.qc_instances.specs.declared.instances.Instances.{Instances}

-- A function that is handed on by an expression that may use so much of what is declared, and that got these itself.
abbrev pub closed : ℕ → List Callee → Callee → Callee
closed level given callee.Nowhere = callee.Nowhere
closed level given (callee.Operator op) = callee.Operator op
closed level given (callee.Declared number) = if nat_lt number level then callee.Declared number else callee.Nowhere
closed level given (callee.Given number) = value_or callee.Nowhere (slice_get given number)

-- what functions are that get no functions
abbrev pub funs_of : {V : Type 0} → Algebra V → List (Meaning V) → List Callee → List (Fun V)
funs_of a ms given = map (fun_of a ms []) given

-- what an expression comes to where it stands, for what its parameters stand for
abbrev pub valued_at : {V : Type 0} → Algebra V → List (Meaning V) → Site → List V → Core one → V
valued_at a ms site vs e = value a (take site.level ms) (funs_of a ms site.given.now) vs e

-- what an instance comes to
abbrev pub instance_meaning : {V : Type 0} → Algebra V → List (Meaning V) → Instance → Meaning V
instance_meaning a ms instance = record {
  value = λ fs vs. used a 0 (slice_get ms instance.number) (funs_of a ms instance.given) vs;
  does = λ fs ts vs. [];
}

abbrev pub instance_meanings : {V : Type 0} → Algebra V → List (Meaning V) → List Instance → List (Meaning V)
instance_meanings a ms instances = map (instance_meaning a ms) instances

abbrev pub bodies_of : Declared → List Body
bodies_of declared = map body_of declared.bodies

-- These are instances of what is declared: written out, and with their sizes.
pub record AreInstances (bodies : List Body) (instances : Instances) : Type 0 where
  pub functions : AreFunctions instances.functions (instance_meanings written (meanings written bodies) instances.table.made)
  pub forms : AreForms instances.forms (instance_meanings sizes (meanings sizes bodies) instances.table.made)
