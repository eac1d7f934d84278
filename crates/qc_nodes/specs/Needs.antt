-- What a node is to compute, as the code has it, and that its terms have the widths that they need.
use Rattle.std.specs.Prelude.{List, [], ◌∷◌, map, Option, None, Some}
use Rattle.qc_terms.specs.Tree.{Tree, tree_of}
use Rattle.qc_pool.specs.Widths.{HasWidths}
use Rattle.qc_derivations.specs.Goals as goals
use Rattle.qc_derivations.specs.Machine.{Assignment, Destination, ToMemory, assignment_of}
use Rattle.qc_nodes.specs.declared.need.Need.{Need}
use Rattle.qc_nodes.specs.declared.need.Need.TheVariants.{Register, Flag, Tile}

abbrev pub need_of : Need → goals.Need
need_of (Register value) = goals.InRegister (tree_of value)
need_of (Flag space index value) = goals.InFlag space index (tree_of value)
need_of (Tile effects) = goals.AsTile (map assignment_of effects)

abbrev pub needs_in : List Need → List goals.Need
needs_in needs = map need_of needs

abbrev pub GuardHasWidths : Option Tree → Type 0
GuardHasWidths None = Unit {0}
GuardHasWidths (Some guard) = HasWidths guard

abbrev pub AddressHasWidths : Destination → Type 0
AddressHasWidths (ToMemory width address) = HasWidths address
AddressHasWidths _ = Unit {0}

-- numbers and operands of the guard, the address and the value have the widths that they need
abbrev pub GoalHasWidths : Assignment → Type 0
GoalHasWidths a = GuardHasWidths a.guard × AddressHasWidths a.to × HasWidths a.value

abbrev pub GoalsHaveWidths : List Assignment → Type 0
GoalsHaveWidths [] = Unit {0}
GoalsHaveWidths (a ∷ goals) = GoalHasWidths a × GoalsHaveWidths goals

abbrev pub NeedHasWidths : goals.Need → Type 0
NeedHasWidths need = GoalsHaveWidths (goals.goals_of need)

abbrev pub NeedsHaveWidths : List goals.Need → Type 0
NeedsHaveWidths [] = Unit {0}
NeedsHaveWidths (need ∷ needs) = NeedHasWidths need × NeedsHaveWidths needs
