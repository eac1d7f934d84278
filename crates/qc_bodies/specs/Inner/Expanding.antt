-- What an expression comes to where it is written out task by task.
use Rattle.std.specs.Prelude.{ℕ, ◌≡◌, List, [], ◌∷◌, ◌++◌, Option, None, Some, drop, length, map, take, slice_get}
use Rattle.std.specs.List.{AllZip}
use Rattle.qc_bodies.specs.declared.expand.Scope.{Scope}
use Rattle.qc_bodies.specs.declared.expand.Task.{Task}
use Rattle.qc_bodies.specs.declared.expand.Task.TheVariants as task
use Rattle.qc_bodies.specs.declared.expand.Writer.{Writer}
use Rattle.qc_bodies.specs.declared.nodes.Node.{Node}
use Rattle.qc_bodies.specs.declared.normal.Normals.{Normals}
use Rattle.qc_bodies.specs.Trees.{Core, one, Wrap}
use Rattle.qc_bodies.specs.Meanings.{Meaning, meanings, operated, value}
use Rattle.qc_bodies.specs.Nodes.{IsAt, placed}
use Rattle.qc_bodies.specs.Normals.{at_places, functions_of, normal_of, ranked}
use Rattle.qc_bodies.specs.Written.{written}

-- the node that a parameter is
abbrev pub place_of_rank : List ℕ → Option (Option ℕ) → Option ℕ
place_of_rank places None = None
place_of_rank places (Some None) = None
place_of_rank places (Some (Some rank)) = slice_get places rank

abbrev pub Parameters : List (Option ℕ) → List ℕ → ℕ → Option ℕ
Parameters ranks places number = place_of_rank places (slice_get ranks number)

-- what all functions come to
abbrev pub written_functions : Normals → List (Meaning (Core one))
written_functions normals = meanings written (functions_of normals)

-- an expression that uses these, with its parameters by rank
abbrev pub out : List (Meaning (Core one)) → List (Option ℕ) → List (Core one) → Core one → Core one
out ms ranks es e = value written ms [] es (ranked ranks e)

-- a scope, with what its parameters stand for
pub record Setting : Type 0 where
  pub level : ℕ
  pub ranks : List (Option ℕ)
  pub stand : List (Core one)

abbrev pub out_in : List (Meaning (Core one)) → Setting → Core one → Core one
out_in ms s e = out (take s.level ms) s.ranks s.stand e

pub record IsScope (nodes : List Node) (scope : Scope) (s : Setting) : Type 0 where
  pub level : scope.level ≡ s.level
  pub ranks : scope.ranks.now ≡ s.ranks
  pub places : AllZip (IsAt nodes) scope.places s.stand

-- this holds of the setting at a number
pub record In (settings : List Setting) (number : ℕ) (Q : Setting → Type 0) : Type 0 where
  pub setting : Setting
  pub is : slice_get settings number ≡ Some setting
  pub holds : Q setting

-- this holds where the last so many expressions are made into one
pub record Taking (count : ℕ) (make : List (Core one) → Core one) (Q : List (Core one) → Type 0) (es : List (Core one)) : Type 0 where
  pub front : List (Core one)
  pub last : List (Core one)
  pub are : es ≡ front ++ last
  pub many : length last ≡ count
  pub holds : Q (front ++ make last ∷ [])

-- this holds once a task is done, where these expressions were found before
abbrev pub After : List (Meaning (Core one)) → List Setting → Task → (List (Core one) → Type 0) → List (Core one) → Type 0
After ms settings (task.One scope body) Q es = In settings scope (λ s. Q (es ++ out_in ms s (normal_of body.now) ∷ []))
After ms settings (task.All scope bodies next) Q es =
    In settings scope (λ s. Q (es ++ map (out_in ms s) (map normal_of (drop next bodies.now))))
After ms settings (task.Wrap token wrap width) Q es = Taking 1 (λ ps. Wrap token wrap width (placed ps 0)) Q es
After ms settings (task.Operate token op count) Q es = Taking count (operated written token op) Q es
After ms settings (task.Enter number function chosen count) Q es =
    Taking count (λ ps. out (take number ms) function.now.ranks (at_places ps chosen.now) (normal_of function.now.body)) Q es

-- this holds once all tasks are done, of which the last comes first
abbrev pub AfterAll : List (Meaning (Core one)) → List Setting → List Task → (List (Core one) → Type 0) → List (Core one) → Type 0
AfterAll ms settings [] Q es = Q es
AfterAll ms settings (t ∷ ts) Q es = AfterAll ms settings ts (After ms settings t Q) es

abbrev pub Only : Core one → List (Core one) → Type 0
Only e es = es ≡ e ∷ []

-- what is to be done leads to this expression alone
pub record Leads (normals : Normals) (scopes : List Scope) (todo : List Task) (places : List ℕ) (nodes : List Node) (e : Core one) : Type 0 where
  pub settings : List Setting
  pub fit : AllZip (IsScope nodes) scopes settings
  pub found : List (Core one)
  pub done : AllZip (IsAt nodes) places found
  pub ends : AfterAll (written_functions normals) settings todo (Only e) found

abbrev pub LeadsTo : Writer → List Node → Core one → Type 0
LeadsTo w nodes e = Leads w.normals.now w.scopes w.todo w.done.items nodes e

-- where this task is to be done before, the others lead there
abbrev pub GoesOn : Writer → Task → List Node → Writer → List Node → Type 0
GoesOn old t before new nodes = (e : Core one) → Leads old.normals.now old.scopes (old.todo ++ t ∷ []) old.done.items before e
    → LeadsTo new nodes e

-- one expression more was found
abbrev pub Found : List Node → List ℕ → List ℕ → Core one → Type 0
Found nodes old new e = (es : List (Core one)) → AllZip (IsAt nodes) old es → AllZip (IsAt nodes) new (es ++ e ∷ [])
