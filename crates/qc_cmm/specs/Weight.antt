-- The weight of a program, which bounds what later steps make of it.
use Rattle.std.specs.Prelude.{ℕ, ◌+◌, List, [], ◌∷◌, ◌++◌, length}
use Rattle.std.specs.List.{flat_map, sum, sum_by}
use Rattle.qc_cmm.specs.declared.syntax.Expr.{Expr, fold-Expr}
use Rattle.qc_cmm.specs.declared.syntax.Expr.TheOpen as layer
use Rattle.qc_cmm.specs.declared.syntax.Expr.TheOpen.{Expr-F}
use Rattle.qc_cmm.specs.declared.syntax.Source.{Source}
use Rattle.qc_cmm.specs.declared.syntax.Source.TheVariants as assigned
use Rattle.qc_cmm.specs.declared.syntax.Statement.{Statement, fold-Statement}
use Rattle.qc_cmm.specs.declared.syntax.Statement.TheOpen as one
use Rattle.qc_cmm.specs.declared.syntax.Statement.TheOpen.{Statement-F}
use Rattle.qc_cmm.specs.declared.syntax.BodyItem.{BodyItem}
use Rattle.qc_cmm.specs.declared.syntax.BodyItem.TheVariants as line
use Rattle.qc_cmm.specs.declared.syntax.Procedure.{Procedure}
use Rattle.qc_cmm.specs.declared.syntax.Part.{Part}
use Rattle.qc_cmm.specs.declared.syntax.Part.TheVariants as part_of
use Rattle.qc_cmm.specs.declared.syntax.Program.{Program}

abbrev pub nodes_layer : Expr-F ℕ → ℕ
nodes_layer (layer.Literal value) = 1
nodes_layer (layer.Name name) = 1
nodes_layer (layer.Load t address) = 1 + address
nodes_layer (layer.Unary prim arg) = 1 + arg
nodes_layer (layer.Binary prim left right) = 1 + left + right

-- how many nodes an expression has
unfoldable pub nodes : Expr → ℕ
nodes = fold-Expr ℕ nodes_layer

abbrev pub all_nodes : List Expr → ℕ
all_nodes = sum_by nodes

-- A call is no node, and neither is the next word of the input.
abbrev pub source_nodes : Source → ℕ
source_nodes (assigned.Input token) = 0
source_nodes (assigned.Value value) = nodes value
source_nodes (assigned.Call name args) = all_nodes args

abbrev pub weights_layer : Statement-F (List ℕ) → List ℕ
weights_layer (one.Goto token label) = 1 ∷ []
weights_layer (one.Return token results) = (1 + all_nodes results) ∷ []
weights_layer (one.If token condition body) = (1 + nodes condition) ∷ flat_map (λ weights. weights) body
weights_layer (one.IfElse token condition body otherwise) =
    (1 + nodes condition) ∷ (flat_map (λ weights. weights) body ++ flat_map (λ weights. weights) otherwise)
weights_layer (one.Out token value) = (1 + nodes value) ∷ []
weights_layer (one.Store t address value) = (1 + nodes address + nodes value) ∷ []
weights_layer (one.Call name args) = (1 + all_nodes args) ∷ []
weights_layer (one.Assign targets source) = (1 + length targets + source_nodes source) ∷ []

-- The weights of a statement and of those in its blocks, in the order of the text. A statement weighs 1, and 1 for each
-- node of its expressions and each target, without those of the statements in its blocks.
unfoldable pub statement_weights : Statement → List ℕ
statement_weights = fold-Statement (List ℕ) weights_layer

-- a label weighs 1, a statement what it weighs with those in its blocks
abbrev pub body_item_weight : BodyItem → ℕ
body_item_weight (line.Label name) = 1
body_item_weight (line.Statement statement) = sum (statement_weights statement)

-- A procedure weighs 4, and 1 for each parameter and variable, and what its body weighs.
abbrev pub procedure_weight : Procedure → ℕ
procedure_weight p =
    4 + length p.params + sum_by (λ d. length d.names) p.variables + sum_by body_item_weight p.body

-- data weigh nothing
abbrev pub part_weight : Part → ℕ
part_weight (part_of.Section token name data_of) = 0
part_weight (part_of.Procedure p) = procedure_weight p

abbrev pub weight : Program → ℕ
weight p = sum_by part_weight p.parts
