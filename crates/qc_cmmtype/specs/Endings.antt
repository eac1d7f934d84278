-- Which lists of statements end, and how many results a procedure has.
use Rattle.std.specs.Prelude.{ℕ, Bool, true, false, ◌&&◌, List, [], ◌∷◌, length, map, Option, None, Some}
use Rattle.std.specs.Option.{option_or}
use Rattle.qc_cmm.specs.declared.syntax.Statement.{Statement, fold-Statement}
use Rattle.qc_cmm.specs.declared.syntax.Statement.TheOpen as one
use Rattle.qc_cmm.specs.declared.syntax.Statement.TheOpen.{Statement-F}
use Rattle.qc_cmm.specs.declared.syntax.BodyItem.{BodyItem}
use Rattle.qc_cmm.specs.declared.syntax.BodyItem.TheVariants as line

-- the last of a list ends it
abbrev pub last_ends : List Bool → Bool
last_ends [] = false
last_ends (e ∷ []) = e
last_ends (e ∷ f ∷ es) = last_ends (f ∷ es)

abbrev pub ends_layer : Statement-F Bool → Bool
ends_layer (one.Goto token label) = true
ends_layer (one.Return token results) = true
ends_layer (one.If token condition body) = false
ends_layer (one.IfElse token condition body otherwise) = last_ends body && last_ends otherwise
ends_layer (one.Out token value) = false
ends_layer (one.Store t address value) = false
ends_layer (one.Call name args) = false
ends_layer (one.Assign targets source) = false

-- A statement ends a list where it is a `goto` or a `return`, or an `if` with `else` both of whose blocks end.
unfoldable pub ends : Statement → Bool
ends = fold-Statement Bool ends_layer

abbrev pub block_ends : List Statement → Bool
block_ends body = last_ends (map ends body)

-- A body that has a label behind its last statement doesn't end.
abbrev pub item_ends : BodyItem → Bool
item_ends (line.Label name) = false
item_ends (line.Statement statement) = ends statement

abbrev pub body_ends : List BodyItem → Bool
body_ends body = last_ends (map item_ends body)

-- the first that there is
abbrev pub first_of_all : List (Option ℕ) → Option ℕ
first_of_all [] = None
first_of_all (o ∷ os) = option_or o (first_of_all os)

abbrev pub returns_layer : Statement-F (Option ℕ) → Option ℕ
returns_layer (one.Goto token label) = None
returns_layer (one.Return token results) = Some (length results)
returns_layer (one.If token condition body) = first_of_all body
returns_layer (one.IfElse token condition body otherwise) = option_or (first_of_all body) (first_of_all otherwise)
returns_layer (one.Out token value) = None
returns_layer (one.Store t address value) = None
returns_layer (one.Call name args) = None
returns_layer (one.Assign targets source) = None

-- how many results the first `return` of a statement has, if there is one in it
unfoldable pub first_return : Statement → Option ℕ
first_return = fold-Statement (Option ℕ) returns_layer

abbrev pub first_return_of_item : BodyItem → Option ℕ
first_return_of_item (line.Label name) = None
first_return_of_item (line.Statement statement) = first_return statement

abbrev pub first_return_in : List BodyItem → Option ℕ
first_return_in body = first_of_all (map first_return_of_item body)

-- A procedure has as many results as its first `return` in the text, and none without a `return`.
abbrev pub or_none : Option ℕ → ℕ
or_none None = 0
or_none (Some n) = n

abbrev pub results_of : List BodyItem → ℕ
results_of body = or_none (first_return_in body)
