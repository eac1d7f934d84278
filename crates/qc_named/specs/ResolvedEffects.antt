-- Effects, and all that a text declares, whose names are resolved.
use Rattle.std.specs.Prelude.{ℕ, true, if◌then◌else◌, List, [], ◌∷◌, ◌++◌, length, map, Option, None, Some}
use Rattle.std.specs.List.{flat_map}
use Rattle.qc_words.specs.declared.operator.Op.{Op}
use Rattle.qc_grammar.specs.declared.cursor.Ident.{Ident}
use Rattle.qc_grammar.specs.declared.cursor.Number.{Number}
use Rattle.qc_lrtl.specs.declared.syntax.Effect.{Effect}
use Rattle.qc_lrtl.specs.declared.syntax.Expr.{Expr}
use Rattle.qc_lrtl.specs.declared.syntax.Guard.{Guard}
use Rattle.qc_lrtl.specs.declared.syntax.Item.{Item}
use Rattle.qc_lrtl.specs.declared.syntax.Item.TheVariants as item
use Rattle.qc_lrtl.specs.declared.syntax.Simple.{Simple}
use Rattle.qc_lrtl.specs.declared.syntax.Simple.TheVariants.{Pc, Out, Halt, Trap, Mem, Name, Cell, Use}
use Rattle.qc_facts.specs.Facts.{Facts, operator_named, cell_named}
use Rattle.qc_facts.specs.Numbers.{access_width}
use Rattle.qc_bodies.specs.Trees.{Core, one, several}
use Rattle.qc_bodies.specs.Law.Acts.{Act, Assign, Uses, Body, Function, Effects}
use Rattle.qc_bodies.specs.Law.Acts as acts
use Rattle.qc_resolve.specs.Scopes.{Signature, takes}
use Rattle.qc_resolve.specs.Declarations.{signature_of_item}
use Rattle.qc_named.specs.declared.standing.Own.{Own}
use Rattle.qc_named.specs.Standing.{Standing, own_in, own_params, placed_in, standing_for}
use Rattle.qc_named.specs.Resolved.{Resolved, resolved, tree_in, aim_of, aim_of_target, callees_of, values_of, aims_of}

-- The use of named effects, which are hidden by an own name or an operator of their name.
abbrev pub acts_of_placed : Standing → Option (Core one) → Option Own → Option Op → Option (ℕ × Signature) → List Resolved → List Act
acts_of_placed standing guard None None (Some s) args =
    if takes true s.1 (length args)
    then Uses guard s.0 (callees_of standing s.1.params args) (aims_of standing s.1.params args)
    (several (values_of standing s.1.params args)) ∷ []
    else []
acts_of_placed standing guard _ _ _ args = []

abbrev pub acts_of_use : Standing → Option (Core one) → Ident → List Expr → List Act
acts_of_use standing guard name args =
    acts_of_placed standing guard (own_in standing name.text) (operator_named name.text) (placed_in standing name.text)
    (map resolved args)

-- an effect on memory
abbrev pub stored : Standing → Option (Core one) → Number → Expr → Expr → Act
stored standing guard bits address value =
    Assign guard (acts.Memory (access_width standing.facts.word bits) (tree_in standing address)) (tree_in standing value)

abbrev pub acts_of_simple : Standing → Option (Core one) → Simple → List Act
acts_of_simple standing guard (Pc token value) = Assign guard acts.Pc (tree_in standing value) ∷ []
acts_of_simple standing guard (Out token value) = Assign guard acts.Out (tree_in standing value) ∷ []
acts_of_simple standing guard (Halt token value) = Assign guard acts.Halt (tree_in standing value) ∷ []
acts_of_simple standing guard (Trap token value) = Assign guard acts.Trap (tree_in standing value) ∷ []
acts_of_simple standing guard (Mem token bits address value) = stored standing guard bits address value ∷ []
acts_of_simple standing guard (Name name value) =
    Assign guard (acts.Register (aim_of standing (Some name))) (tree_in standing value) ∷ []
acts_of_simple standing guard (Cell space cell value) =
    Assign guard (acts.Register (aim_of_target (cell_named standing.facts space cell))) (tree_in standing value) ∷ []
acts_of_simple standing guard (Use name args) = acts_of_use standing guard name args

abbrev pub guard_tree : Standing → Option Guard → Option (Core one)
guard_tree standing None = None
guard_tree standing (Some guard) = Some (tree_in standing guard.condition)

-- what one effect is; the use of what is no named effects is none
unfoldable pub acts_of_effect : Standing → Effect → List Act
acts_of_effect standing e = acts_of_simple standing (guard_tree standing e.guard) e.simple

abbrev pub acts_of : Standing → List Effect → List Act
acts_of standing effects = flat_map (acts_of_effect standing) effects

-- what an item declares after these functions and named effects
abbrev pub body_of_item : Facts → List Signature → Item → List Body
body_of_item facts earlier (item.Function token name params body) =
    Function (tree_in (standing_for facts earlier (own_params params)) body) ∷ []
body_of_item facts earlier (item.Effects token name params body) =
    Effects (acts_of (standing_for facts earlier (own_params params)) body) ∷ []
body_of_item facts earlier _ = []

-- what is made of each item where those before it are declared, in order
abbrev pub in_order : {A : Type 0} → Facts → (List Signature → Item → List A) → List Signature → List Item → List A
in_order facts of earlier [] = []
in_order facts of earlier (i ∷ items) =
    of earlier i ++ in_order facts of (earlier ++ signature_of_item facts earlier i) items

abbrev pub bodies_after : Facts → List Signature → List Item → List Body
bodies_after facts earlier items = in_order facts (body_of_item facts) earlier items

-- all that items declare, in order
abbrev pub bodies_in : Facts → List Item → List Body
bodies_in facts items = bodies_after facts [] items
