-- Values of nodes, made one after another, each from those of its parts: at each place stands what the expression there comes to.
use Rattle.std.proofs.Common.{◌≡◌, ℕ, List, [], ◌∷◌, ◌++◌, map, slice_get, Option, None, Some, refl, sym, ◌∙◌, ap}
use Rattle.std.specs.Option.{option_map}
use Rattle.std.proofs.lemmas.List.{map-append}
use Rattle.std.proofs.lemmas.Option.{slice_get-map}
use Rattle.qc_bodies.specs.declared.nodes.Node.{Node}
use Rattle.qc_bodies.specs.declared.nodes.Node.TheVariants as node
use Rattle.qc_bodies.specs.Trees.{Core, one, Absent}
use Rattle.qc_bodies.specs.Meanings.{Algebra, operated, value, value_or}
use Rattle.qc_bodies.specs.Nodes.{IsAt, node_over, nodes_after, placed, written_in}

-- the value at a place
abbrev pub valued : {V : Type 0} → Algebra V → List V → ℕ → V
valued a vs k = value_or (a.absent 0) (slice_get vs k)

-- what a node comes to over these
abbrev pub value_over : {V : Type 0} → Algebra V → List V → Node → V
value_over a vs (node.Leaf token leaf width) = a.leaf token leaf width
value_over a vs (node.Absent token) = a.absent token
value_over a vs (node.Wrap token wrap width part) = a.wrap token wrap width (valued a vs part)
value_over a vs (node.Unary token op arg) = operated a token op (valued a vs arg ∷ [])
value_over a vs (node.Binary token op left right) = operated a token op (valued a vs left ∷ valued a vs right ∷ [])

abbrev pub values_after : {V : Type 0} → Algebra V → List V → List Node → List V
values_after a vs [] = vs
values_after a vs (n ∷ ns) = values_after a (vs ++ value_over a vs n ∷ []) ns

-- the values of nodes, in order
abbrev pub values_in : {V : Type 0} → Algebra V → List Node → List V
values_in a nodes = values_after a [] nodes

-- what an expression comes to that uses nothing and has no parameters
abbrev pub alone : {V : Type 0} → Algebra V → Core one → V
alone a e = value a [] [] [] e

alone_or : {V : Type 0} (a : Algebra V) (o : Option (Core one)) → alone a (value_or (Absent 0) o) ≡ value_or (a.absent 0) (option_map (alone a) o)
alone_or a None = refl
alone_or a (Some e) = refl

alone_placed : {V : Type 0} (a : Algebra V) (es : List (Core one)) (k : ℕ) → alone a (placed es k) ≡ valued a (map (alone a) es) k
alone_placed a es k = alone_or a (slice_get es k) ∙ ap (value_or (a.absent 0)) (sym (slice_get-map (alone a) es k))

alone_over : {V : Type 0} (a : Algebra V) (es : List (Core one)) (n : Node) → alone a (node_over es n) ≡ value_over a (map (alone a) es) n
alone_over a es (node.Leaf token leaf width) = refl
alone_over a es (node.Absent token) = refl
alone_over a es (node.Wrap token wrap width part) = ap (a.wrap token wrap width) (alone_placed a es part)
alone_over a es (node.Unary token op arg) = ap (λ v. operated a token op (v ∷ [])) (alone_placed a es arg)
alone_over a es (node.Binary token op left right) =
    ap (λ v. operated a token op (v ∷ alone a (placed es right) ∷ [])) (alone_placed a es left)
    ∙ ap (λ v. operated a token op (valued a (map (alone a) es) left ∷ v ∷ [])) (alone_placed a es right)

valued_after : {V : Type 0} (a : Algebra V) (es : List (Core one)) (nodes : List Node)
    → map (alone a) (nodes_after es nodes) ≡ values_after a (map (alone a) es) nodes
valued_after a es [] = refl
valued_after a es (n ∷ ns) =
    valued_after a (es ++ node_over es n ∷ []) ns
    ∙ ap (λ vs. values_after a vs ns) (map-append (alone a) es (node_over es n ∷ [])
    ∙ ap (λ v. map (alone a) es ++ v ∷ []) (alone_over a es n))

pub valued_at_place : {V : Type 0} (a : Algebra V) (nodes : List Node) (place : ℕ) (e : Core one) → IsAt nodes place e
    → slice_get (values_in a nodes) place ≡ Some (alone a e)
valued_at_place a nodes place e h =
    ap (λ vs. slice_get vs place) (sym (valued_after a [] nodes))
    ∙ (slice_get-map (alone a) (written_in nodes) place ∙ ap (option_map (alone a)) h)
