-- Goals keep the widths that their terms need where laws are used in them.
use Rattle.std.proofs.Common.{◌≡◌, ℕ, zero, suc, List, [], ◌∷◌, Bool, true, false, cond, nat_eq, Option, None, Some, refl, ap, subst, option_and_then, map, slice_get, slice_set}
use Rattle.std.specs.Option.{option_map}
use Rattle.qc_terms.specs.declared.term.Effect.{Effect}
use Rattle.qc_terms.specs.Tree.{Tree}
use Rattle.qc_pool.specs.Widths.{HasWidths}
use Rattle.qc_equations.specs.declared.names.Law.{Law}
use Rattle.qc_equations.specs.Law.Places.{GoesThroughLoads, rewritten-holds}
use Rattle.qc_equations.specs.Steps.{rewritten}
use Rattle.qc_laws.specs.Law.Widths.{by_widths}
use Rattle.qc_derivations.specs.Goals.{with_address, with_destination, with_guard, with_part, with_place, with_value}
use Rattle.qc_derivations.specs.Machine.{Assignment, Destination, ToCounter, ToHalt, ToMemory, ToOutput, ToPlace, ToTrap, assignment_of}
use Rattle.qc_nodes.specs.Needs.{AddressHasWidths, GoalHasWidths, GoalsHaveWidths, GuardHasWidths}

through_loads : GoesThroughLoads HasWidths
through_loads = record { address = λ width address fits. fits; load = λ width address other same fits more. more }

law_keeps : (law : Law) (place : List ℕ) (t u : Tree) → rewritten law place t ≡ Some u → HasWidths t → HasWidths u
law_keeps law place t u e fits = (rewritten-holds HasWidths by_widths through_loads law place t u e fits).0

-- what a mapped option has is of what the option has
pub mapped : {A B : Type 0} (P : B → Type 0) (f : A → B) (it : Option A) (b : B) → option_map f it ≡ Some b →
    ((a : A) → it ≡ Some a → P (f a)) → P b
mapped P f None b e each = cc
mapped P f (Some a) b e each = let same : f a ≡ b = cc in subst P same (each a refl)

pub chained : {A B : Type 0} (P : B → Type 0) (f : A → Option B) (it : Option A) (b : B) → option_and_then f it ≡ Some b →
    ((a : A) → it ≡ Some a → f a ≡ Some b → P b) → P b
chained P f None b e each = cc
chained P f (Some a) b e each = each a refl e

guard_keeps : (law : Law) (place : List ℕ) (guard : Option Tree) (u : Tree) →
    option_and_then (rewritten law place) guard ≡ Some u → GuardHasWidths guard → HasWidths u
guard_keeps law place None u e fits = cc
guard_keeps law place (Some t) u e fits = law_keeps law place t u e fits

destination_keeps : (law : Law) (place : List ℕ) (to new : Destination) → with_destination law place to ≡ Some new →
    AddressHasWidths to → AddressHasWidths new
destination_keeps law place (ToMemory width address) new e fits =
    mapped AddressHasWidths (ToMemory width) (rewritten law place address) new e (λ u is. law_keeps law place address u is fits)
destination_keeps law place (ToPlace p) new e fits = cc
destination_keeps law place ToCounter new e fits = cc
destination_keeps law place ToOutput new e fits = cc
destination_keeps law place ToHalt new e fits = cc
destination_keeps law place ToTrap new e fits = cc

part_keeps : (law : Law) (part : ℕ) (place : List ℕ) (a new : Assignment) → with_part law part place a ≡ Some new →
    GoalHasWidths a → GoalHasWidths new
part_keeps law part place a new e fits = first (nat_eq part 0) e
  where
    on_guard : with_guard law place a ≡ Some new → GoalHasWidths new
    on_guard e =
        mapped GoalHasWidths (λ g. record a { guard = Some g }) (option_and_then (rewritten law place) a.guard) new e
        (λ g is. (guard_keeps law place a.guard g is fits.0, fits.1, fits.2))

    on_address : with_address law place a ≡ Some new → GoalHasWidths new
    on_address e =
        mapped GoalHasWidths (λ to. record a { to = to }) (with_destination law place a.to) new e
        (λ to is. (fits.0, destination_keeps law place a.to to is fits.1, fits.2))

    on_value : with_value law place a ≡ Some new → GoalHasWidths new
    on_value e =
        mapped GoalHasWidths (λ v. record a { value = v }) (rewritten law place a.value) new e
        (λ v is. (fits.0, fits.1, law_keeps law place a.value v is fits.2))

    third : (test : Bool) → cond test (with_value law place a) None ≡ Some new → GoalHasWidths new
    third true e = on_value e
    third false e = cc

    second : (test : Bool) → cond test (with_address law place a) (cond (nat_eq part 2) (with_value law place a) None) ≡ Some new →
        GoalHasWidths new
    second true e = on_address e
    second false e = third (nat_eq part 2) e

    first : (test : Bool) →
        cond test (with_guard law place a)
        (cond (nat_eq part 1) (with_address law place a) (cond (nat_eq part 2) (with_value law place a) None))
        ≡ Some new → GoalHasWidths new
    first true e = on_guard e
    first false e = second (nat_eq part 1) e

pub goal_at : (goals : List Assignment) (number : ℕ) (a : Assignment) → slice_get goals number ≡ Some a → GoalsHaveWidths goals →
    GoalHasWidths a
goal_at [] number a e fits = cc
goal_at (x ∷ xs) zero a e fits = let same : x ≡ a = cc in subst GoalHasWidths same fits.0
goal_at (x ∷ xs) (suc n) a e fits = goal_at xs n a e fits.1

set_keeps : (goals : List Assignment) (number : ℕ) (a : Assignment) → GoalHasWidths a → GoalsHaveWidths goals →
    GoalsHaveWidths (slice_set goals number a)
set_keeps [] number a new fits = fits
set_keeps (x ∷ xs) zero a new fits = (new, fits.1)
set_keeps (x ∷ xs) (suc n) a new fits = (fits.0, set_keeps xs n a new fits.1)

pub place_keeps : (law : Law) (place : List ℕ) (goals new : List Assignment) → with_place law place goals ≡ Some new →
    GoalsHaveWidths goals → GoalsHaveWidths new
place_keeps law [] goals new e fits = cc
place_keeps law (number ∷ []) goals new e fits = cc
place_keeps law (number ∷ part ∷ place) goals new e fits =
    mapped GoalsHaveWidths (slice_set goals number) (option_and_then (with_part law part place) (slice_get goals number)) new e
    (λ b is. set_keeps goals number b
    (chained GoalHasWidths (with_part law part place) (slice_get goals number) b is
    (λ a at given. part_keeps law part place a b given (goal_at goals number a at fits)))
    fits)

pub set_mapped : (goals : List Effect) (number : ℕ) (goal : Effect) →
    map assignment_of (slice_set goals number goal) ≡ slice_set (map assignment_of goals) number (assignment_of goal)
set_mapped [] number goal = refl
set_mapped (x ∷ xs) zero goal = refl
set_mapped (x ∷ xs) (suc n) goal = ap (λ rest. assignment_of x ∷ rest) (set_mapped xs n goal)
