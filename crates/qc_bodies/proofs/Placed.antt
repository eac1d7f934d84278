-- Nodes in a list that grows.
use Rattle.std.proofs.Common.{◌≡◌, ◌+◌, ◌<◌, ℕ, zero, suc, false, nat_eq, List, [], ◌∷◌, ◌++◌, length, map, take, slice_get, slice_index_or, None, Some, Result, Ok, Err, IfOk, refl, sym, ◌∙◌, ap, subst, arith, length-append}
use Rattle.std.proofs.lemmas.Option.{slice_get_within}
use Rattle.std.proofs.lemmas.Bool.Decides.{nat_tests}
use Rattle.qc_words.specs.declared.operator.Op.{Op}
use Rattle.qc_bodies.specs.Meanings.{operands_of, operated}
use Rattle.qc_bodies.specs.Written.{written}
use Rattle.qc_lists.specs.Law.Lists.{slice_get-append_left, slice_get-append_right}
use Rattle.qc_bodies.specs.declared.nodes.Node.{Node}
use Rattle.std.specs.List.{AllZip}
use Rattle.std.proofs.lemmas.List.{take_more, map-append}
use Rattle.qc_bodies.specs.Law.Related.{related_append}
use Rattle.qc_bodies.specs.Trees.{Core, one, Absent}
use Rattle.qc_bodies.specs.Nodes.{IsAt, Keeps, node_over, nodes_after, placed, written_in}

after_push : (es : List (Core one)) (nodes : List Node) (node : Node)
    → nodes_after es (nodes ++ node ∷ []) ≡ nodes_after es nodes ++ node_over (nodes_after es nodes) node ∷ []
after_push es [] node = refl
after_push es (n ∷ ns) node = after_push (es ++ node_over es n ∷ []) ns node

after_length : (es : List (Core one)) (nodes : List Node) → length (nodes_after es nodes) ≡ length es + length nodes
after_length es [] = omega arith
after_length es (n ∷ ns) =
    let h = after_length (es ++ node_over es n ∷ []) ns in
    omega (arith, h, length-append es (node_over es n ∷ []))

pub added_place : (nodes : List Node) (node : Node) → IsAt (nodes ++ node ∷ []) (length nodes) (node_over (written_in nodes) node)
added_place nodes node =
    let es = written_in nodes in
    let count : length nodes ≡ length es + 0 = omega (arith, after_length [] nodes) in
    ap (λ l. slice_get l (length nodes)) (after_push [] nodes node)
    ∙ (ap (slice_get (es ++ node_over es node ∷ [])) count ∙ slice_get-append_right es (node_over es node ∷ []) 0)

pub added_keeps : (nodes : List Node) (node : Node) → Keeps nodes (nodes ++ node ∷ [])
added_keeps nodes node place e h =
    let es = written_in nodes in
    ap (λ l. slice_get l place) (after_push [] nodes node)
    ∙ (slice_get-append_left es (node_over es node ∷ []) place (slice_get_within es place e h) ∙ h)

pub keep_all : (old new : List Node) → Keeps old new → (places : List ℕ) (es : List (Core one))
    → AllZip (IsAt old) places es → AllZip (IsAt new) places es
keep_all old new k [] [] h = tt
keep_all old new k [] (e ∷ es) h = absurd h
keep_all old new k (p ∷ ps) [] h = absurd h
keep_all old new k (p ∷ ps) (e ∷ es) h = (k p e h.0, keep_all old new k ps es h.1)

pub keeps_trans : (old mid new : List Node) → Keeps old mid → Keeps mid new → Keeps old new
keeps_trans old mid new h k place e is = k place e (h place e is)

-- the argument at a place
pub argument_at : (nodes : List Node) (args : List ℕ) (es : List (Core one)) (place node : ℕ) → AllZip (IsAt nodes) args es
    → slice_get args place ≡ Some node → IsAt nodes node (placed es place)
argument_at nodes [] es place node h e = cc
argument_at nodes (a ∷ bs) [] place node h e = absurd h
argument_at nodes (a ∷ bs) (x ∷ xs) zero node h e = let same : a ≡ node = cc in subst (λ k. IsAt nodes k x) same h.0
argument_at nodes (a ∷ bs) (x ∷ xs) (suc k) node h e = argument_at nodes bs xs k node h.1 e

pub no_argument_at : (nodes : List Node) (args : List ℕ) (es : List (Core one)) (place : ℕ) → AllZip (IsAt nodes) args es
    → slice_get args place ≡ None → placed es place ≡ Absent 0
no_argument_at nodes [] [] place h e = refl
no_argument_at nodes [] (x ∷ xs) place h e = absurd h
no_argument_at nodes (a ∷ bs) [] place h e = absurd h
no_argument_at nodes (a ∷ bs) (x ∷ xs) zero h e = cc
no_argument_at nodes (a ∷ bs) (x ∷ xs) (suc k) h e = no_argument_at nodes bs xs k h.1 e

-- one place more
pub places_push : (nodes : List Node) (places : List ℕ) (es : List (Core one)) (place : ℕ) (e : Core one)
    → AllZip (IsAt nodes) places es → IsAt nodes place e → AllZip (IsAt nodes) (places ++ place ∷ []) (es ++ e ∷ [])
places_push nodes places es place e h k = related_append (IsAt nodes) places es (place ∷ []) (e ∷ []) h (k, tt)

pub map_more_at : {A B : Type 0} (f : A → B) (xs : List A) (k : ℕ) (d : A) → k < length xs
    → map f (take (k + 1) xs) ≡ map f (take k xs) ++ f (slice_index_or xs k d) ∷ []
map_more_at f xs k d h = ap (map f) (take_more xs k d h) ∙ map-append f (take k xs) (slice_index_or xs k d ∷ [])

pub map_more : {A B : Type 0} (f : A → B) (xs : List A) (k : ℕ) (x : A) → k < length xs → x ≡ slice_index_or xs k x
    → map f (take (k + 1) xs) ≡ map f (take k xs) ++ f x ∷ []
map_more f xs k x h e = map_more_at f xs k x h ∙ ap (λ y. map f (take k xs) ++ f y ∷ []) (sym e)

-- an operator at a wrong number of operands
pub unfit : (token : ℕ) (op : Op) (es : List (Core one)) → (operands_of op ≡ length es → ⊥) → operated written token op es ≡ Absent token
unfit token op es h = let t : nat_eq (operands_of op) (length es) ≡ false = grind (arith, nat_tests) in rw t

-- what a call gives for each
pub each_ok : {T E X : Type 0} (Q : X → Type 0) (P : X → T → Type 0) (r : Result T E) → ((x : X) → Q x → IfOk r (λ p. P x p))
    → IfOk r (λ p. (x : X) → Q x → P x p)
each_ok Q P (Ok p) h = h
each_ok Q P (Err e) h = tt
