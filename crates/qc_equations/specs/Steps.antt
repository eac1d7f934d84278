-- Laws that are used at places of a term, one after another.
use Rattle.std.specs.Prelude.{ℕ, List, [], ◌∷◌, nat_eq, Option, None, Some, option_and_then, if◌then◌else◌}
use Rattle.std.specs.Option.{option_map}
use Rattle.qc_terms.specs.Tree.{Tree, Binary, Load, Unary}
use Rattle.qc_equations.specs.declared.names.Law.{Law}
use Rattle.qc_equations.specs.Table.{gives}

-- The term where a change is made at a place, if the place is there and the change gives something for what stands there. A
-- place is the way from the root: at each operator the number of the operand. A load's address is its operand 0.
abbrev pub at : (Tree → Option Tree) → List ℕ → Tree → Option Tree
at change [] t = change t
at change (number ∷ place) (Unary op arg) =
    if nat_eq number 0 then option_map (Unary op) (at change place arg) else None
at change (number ∷ place) (Binary op left right) =
    if nat_eq number 0 then option_map (λ t. Binary op t right) (at change place left)
    else (if nat_eq number 1 then option_map (Binary op left) (at change place right) else None)
at change (number ∷ place) (Load width address) =
    if nat_eq number 0 then option_map (Load width) (at change place address) else None
at change (number ∷ place) _ = None

-- the term where the law is used at a place
abbrev pub rewritten : Law → List ℕ → Tree → Option Tree
rewritten law = at (gives law)

-- the term after some steps, each a law and a place
abbrev pub after_steps : List (Law × List ℕ) → Tree → Option Tree
after_steps [] t = Some t
after_steps (step ∷ steps) t = option_and_then (after_steps steps) (rewritten step.0 step.1 t)
