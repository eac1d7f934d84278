-- The terms of a sound tile have the widths that they need.
use Rattle.std.proofs.Common.{◌≡◌, ℕ, List, [], ◌∷◌, map, None, Some, All, Option, IfSome}
use Rattle.std.proofs.lemmas.List.Elements.{All-head, All-tail}
use Rattle.std.specs.Option.{option_map}
use Rattle.qc_terms.specs.declared.term.Dest.{Dest}
use Rattle.qc_terms.specs.declared.term.Dest.TheVariants as dest
use Rattle.qc_terms.specs.declared.term.Effect.{Effect}
use Rattle.qc_terms.specs.declared.term.Term.{Term}
use Rattle.qc_terms.specs.State.{Context}
use Rattle.qc_terms.specs.Tree.{tree_of, width_of}
use Rattle.qc_terms.specs.Typing.{IsTyped, IsTypedEffect, TakesWidth}
use Rattle.qc_pool.specs.Law.Typed.{typed_has_widths}
use Rattle.qc_derivations.specs.Machine.{assignment_of, destination_of}
use Rattle.qc_nodes.specs.Needs.{AddressHasWidths, GoalHasWidths, GoalsHaveWidths, GuardHasWidths}

guard_fits : (context : Context) (guard : Option Term) →
    IfSome guard (λ g. IsTyped context (tree_of g) × (width_of (tree_of g) ≡ 1)) → GuardHasWidths (option_map tree_of guard)
guard_fits context None typed = tt
guard_fits context (Some g) typed = typed_has_widths context (tree_of g) typed.0

address_fits : (context : Context) (to : Dest) (width : ℕ) → TakesWidth context to width → AddressHasWidths (destination_of to)
address_fits context (dest.Mem size address) width takes = typed_has_widths context (tree_of address) takes.2
address_fits context (dest.Reg place) width takes = tt
address_fits context dest.Pc width takes = tt
address_fits context dest.Out width takes = tt
address_fits context dest.Halt width takes = tt
address_fits context dest.Trap width takes = tt

effect_fits : (context : Context) (e : Effect) → IsTypedEffect context e → GoalHasWidths (assignment_of e)
effect_fits context e typed = (
  guard_fits context e.guard typed.guard,
  address_fits context e.to (width_of (tree_of e.value)) typed.to,
  typed_has_widths context (tree_of e.value) typed.value,
)

pub typed_fits : (context : Context) (effects : List Effect) → All (IsTypedEffect context) effects →
    GoalsHaveWidths (map assignment_of effects)
typed_fits context [] typed = tt
typed_fits context (e ∷ es) typed =
    (effect_fits context e (All-head (IsTypedEffect context) e es typed), typed_fits context es (All-tail (IsTypedEffect context) e es typed))
