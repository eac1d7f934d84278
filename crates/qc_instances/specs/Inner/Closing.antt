-- Expressions that get functions, and expressions of instances, that come to the same.
use Rattle.std.specs.Prelude.{ℕ, ◌≡◌, ◌≤◌, List, [], length, map, take}
use Rattle.qc_bodies.specs.declared.tree.Callee.{Callee}
use Rattle.qc_bodies.specs.Law.Acts.{Body}
use Rattle.qc_bodies.specs.Trees.{Core, one}
use Rattle.qc_bodies.specs.Meanings.{Meaning, meanings, fun_of, value}
use Rattle.qc_bodies.specs.Written.{written}
use Rattle.qc_instances.specs.declared.closing.Place.{Place}
use Rattle.qc_instances.specs.declared.instance.Instance.{Instance}
use Rattle.qc_instances.specs.declared.instance.Site.{Site}
use Rattle.qc_instances.specs.Instances.{funs_of, instance_meaning, instance_meanings, valued_at}

-- what an expression of these instances comes to
abbrev pub plainly : List (Meaning (Core one)) → List Instance → List (Core one) → Core one → Core one
plainly ms made es p = value written (instance_meanings written ms made) [] es p

-- what an expression comes to where it stands
abbrev pub inside : Place → List (Meaning (Core one)) → List (Core one) → Core one → Core one
inside place ms es e = value written (take place.level ms) (funs_of written ms place.given.now) es e

-- for all that is declared, of which there is so much
abbrev pub SamePlain : Place → Core one → Core one → Type 0
SamePlain place e p = (ms : List (Meaning (Core one))) → length ms ≡ place.count → place.level ≤ place.count → (es : List (Core one))
    → plainly ms place.table.now.made es p ≡ inside place ms es e

abbrev pub SamePlains : Place → List (Core one) → List (Core one) → Type 0
SamePlains place trees plains = (ms : List (Meaning (Core one))) → length ms ≡ place.count → place.level ≤ place.count → (es : List (Core one))
    → map (plainly ms place.table.now.made es) plains ≡ map (inside place ms es) trees

-- the use of an instance at these
abbrev pub IsUseOf : List Instance → ℕ → Instance → List (Core one) → Core one → Type 0
IsUseOf made token instance args p = (ms : List (Meaning (Core one))) (es : List (Core one))
    → plainly ms made es p ≡ (instance_meaning written ms instance).value [] (map (plainly ms made es) args)

-- the use of a function that was handed on
abbrev pub IsApplied : Place → ℕ → Callee → List (Core one) → Core one → Type 0
IsApplied place token callee args p = (ms : List (Meaning (Core one))) → length ms ≡ place.count → (es : List (Core one))
    → plainly ms place.table.now.made es p
    ≡ fun_of written ms [] callee token (map (plainly ms place.table.now.made es) args)

-- the body of an instance
abbrev pub IsBodyOf : List Body → List Instance → Instance → Core one → Type 0
IsBodyOf bodies made instance p = (es : List (Core one))
    → plainly (meanings written bodies) made es p ≡ (instance_meaning written (meanings written bodies) instance).value [] es

-- an expression where it stands
abbrev pub IsClosed : List Body → List Instance → Site → Core one → Core one → Type 0
IsClosed bodies made site e p = (es : List (Core one))
    → plainly (meanings written bodies) made es p ≡ valued_at written (meanings written bodies) site es e
