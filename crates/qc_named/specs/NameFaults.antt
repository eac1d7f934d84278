-- The faults among the names of each function and of all named effects that a text declares.
use Rattle.std.specs.Prelude.{List, [], ◌∷◌}
use Rattle.std.specs.List.{flat_map}
use Rattle.qc_lrtl.specs.declared.syntax.Item.{Item}
use Rattle.qc_lrtl.specs.declared.syntax.Item.TheVariants as item
use Rattle.qc_facts.specs.declared.faults.WidthFault.{WidthFault}
use Rattle.qc_facts.specs.Facts.{Facts}
use Rattle.qc_resolve.specs.Declarations.{locals_of_params, names_for}
use Rattle.qc_resolve.specs.Effects.{effect_faults}
use Rattle.qc_resolve.specs.Expressions.{faults_in}
use Rattle.qc_resolve.specs.Scopes.{Signature}
use Rattle.qc_named.specs.ResolvedEffects.{in_order}

-- those of what an item declares after these functions and named effects
abbrev pub name_faults_of_item : Facts → List Signature → Item → List (List WidthFault)
name_faults_of_item facts earlier (item.Function token name params body) =
    faults_in (names_for facts earlier (locals_of_params params)) body ∷ []
name_faults_of_item facts earlier (item.Effects token name params body) =
    flat_map (effect_faults (names_for facts earlier (locals_of_params params))) body ∷ []
name_faults_of_item facts earlier _ = []

abbrev pub name_faults_in : Facts → List Item → List (List WidthFault)
name_faults_in facts items = in_order facts (name_faults_of_item facts) [] items
