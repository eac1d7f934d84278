-- Steps of the walk through trees: what it answers of a tree, alone and before others.
use Rattle.std.proofs.Common.{arith, ◌≡◌, ◌∙◌, ◌≢◌, ℕ, ◌+◌, ◌-◌, ◌<◌, ◌≤◌, List, [], ◌∷◌, Option, None, Some, refl, ap, sym, subst, drop, take, length, get_or, nat_le, nat_lt, cond, ◌&&◌, Bool, true, false}
use Rattle.std.proofs.lemmas.List.{take_all}
use Rattle.std.specs.Option.{option_or}
use Rattle.qc_derivations.specs.declared.derivation.Derivation.{Derivation}
use Rattle.qc_derivations.specs.Forest.{Forest, children_under, forest_of, grows_of, height_of, node_of, nodes_of}
use Rattle.qc_derivations.specs.Goals.{Need}
use Rattle.qc_derivations.specs.Law.Forest.{grows_of-tree}
use Rattle.qc_derivations.specs.Nodes.{Task, children_of}
use Rattle.qc_derivations.specs.Valid.{first_fault, node_fault}
use Rattle.qc_nodes.specs.declared.need.Need as code
use Rattle.qc_nodes.specs.Needs.{NeedsHaveWidths, need_of, needs_in}
use Rattle.qc_derive.specs.declared.walk.Walked.{Walked}
use Rattle.qc_derive.specs.declared.walk.Walked.TheVariants.{Fault, Next}
use Rattle.qc_derive.specs.Inner.Walks.{fault_in, walked}
use Rattle.qc_derive.proofs.Trees.{before_fault, before_height, before_nodes, highest, tree_fault, tree_height, tree_nodes}

-- a node that breaks a rule
pub tree_none : (task : Task) (n k : ℕ) (d : Derivation) (need : Need) → children_of task need (node_of d) ≡ None →
    walked (first_fault task n (forest_of d) (need ∷ [])) k ≡ Fault n
tree_none task n k d need e =
    ap (λ (x : Option ℕ). walked x k)
    (tree_fault task n d need ∙ ap (node_fault (first_fault task (n + 1) (children_under d)) n) e)

-- a node that keeps them
pub tree_some : (task : Task) (n : ℕ) (d : Derivation) (need : Need) (inner : List Need) →
    children_of task need (node_of d) ≡ Some inner →
    walked (first_fault task n (forest_of d) (need ∷ [])) (n + nodes_of (forest_of d))
    ≡ walked (first_fault task (n + 1) (children_under d) inner) (n + 1 + nodes_of (children_under d))
tree_some task n d need inner e =
    let nodes = tree_nodes d in
    let same : n + nodes_of (forest_of d) ≡ n + 1 + nodes_of (children_under d) = omega (arith, nodes) in
    ap (λ (x : Option ℕ). walked x (n + nodes_of (forest_of d)))
    (tree_fault task n d need ∙ ap (node_fault (first_fault task (n + 1) (children_under d)) n) e)
    ∙ ap (walked (first_fault task (n + 1) (children_under d) inner)) same

-- what a walk's answer says of the fault
fault_is : (x : Option ℕ) (k f : ℕ) → Fault f ≡ walked x k → x ≡ Some f
fault_is None k f e = cc
fault_is (Some g) k f e = cc

next_is : (x : Option ℕ) (k n : ℕ) → Next n ≡ walked x k → (x ≡ None) × (n ≡ k)
next_is None k n e = (refl, cc)
next_is (Some g) k n e = cc

pub fault_before : (task : Task) (n j k : ℕ) (d : Derivation) (rest : Forest) (need : Need) (needs : List Need) (f : ℕ) →
    Fault f ≡ walked (first_fault task n (forest_of d) (need ∷ [])) j →
    walked (first_fault task n (grows_of d rest) (need ∷ needs)) k ≡ Fault f
fault_before task n j k d rest need needs f e =
    ap (λ (x : Option ℕ). walked x k)
    (before_fault task n d rest need needs
    ∙ ap (λ (x : Option ℕ). option_or x (first_fault task (n + nodes_of (forest_of d)) rest needs))
    (fault_is (first_fault task n (forest_of d) (need ∷ [])) j f e))

pub next_before : (task : Task) (n m : ℕ) (d : Derivation) (rest : Forest) (need : Need) (needs : List Need) →
    Next m ≡ walked (first_fault task n (forest_of d) (need ∷ [])) (n + nodes_of (forest_of d)) →
    walked (first_fault task n (grows_of d rest) (need ∷ needs)) (n + nodes_of (grows_of d rest))
    ≡ walked (first_fault task m rest needs) (m + nodes_of rest)
next_before task n m d rest need needs e =
    let is = next_is (first_fault task n (forest_of d) (need ∷ [])) (n + nodes_of (forest_of d)) m e in
    let nodes = before_nodes d rest in
    let same : n + nodes_of (grows_of d rest) ≡ m + nodes_of rest = omega (arith, nodes, is.1) in
    ap (λ (x : Option ℕ). walked x (n + nodes_of (grows_of d rest)))
    (before_fault task n d rest need needs
    ∙ ap (λ (x : Option ℕ). option_or x (first_fault task (n + nodes_of (forest_of d)) rest needs)) is.0)
    ∙ ap (λ (k : ℕ). walked (first_fault task k rest needs) (n + nodes_of (grows_of d rest))) (sym is.1)
    ∙ ap (walked (first_fault task m rest needs)) same

-- ---- heights

pub within_tree : (d : Derivation) (h : ℕ) → h ≢ 0 →
    nat_le (height_of (forest_of d)) h ≡ nat_le (height_of (children_under d)) (h - 1)
within_tree d h some = ap (λ (k : ℕ). nat_le k h) (tree_height d) ∙ grind (arith, some)

pub within_none : (d : Derivation) → nat_le (height_of (forest_of d)) 0 ≡ false
within_none d = ap (λ (k : ℕ). nat_le k 0) (tree_height d) ∙ grind arith

pub within_before : (d : Derivation) (rest : Forest) (h : ℕ) →
    nat_le (height_of (grows_of d rest)) h ≡ (nat_le (height_of (forest_of d)) h && nat_le (height_of rest) h)
within_before d rest h =
    ap (λ (k : ℕ). nat_le k h) (before_height d rest) ∙ highest (height_of (forest_of d)) (height_of rest) h

-- ---- the whole

pub fault_walked : (x : Option ℕ) (k : ℕ) (answer : Walked) → answer ≡ walked x k → fault_in answer ≡ x
fault_walked None k answer e = ap fault_in e
fault_walked (Some n) k answer e = ap fault_in e

pub too_high : (height bound : ℕ) (x : Option ℕ) → nat_le height bound ≡ false → cond (nat_lt bound height) (Some 0) x ≡ Some 0
too_high height bound x e =
    let above : nat_lt bound height ≡ true = grind (arith, e) in ap (λ (b : Bool). cond b (Some 0) x) above

pub in_bounds : (height bound : ℕ) (x : Option ℕ) → nat_le height bound ≡ true → cond (nat_lt bound height) (Some 0) x ≡ x
in_bounds height bound x e =
    let below : nat_lt bound height ≡ false = grind (arith, e) in ap (λ (b : Bool). cond b (Some 0) x) below

-- ---- needs in order

tail_is : (x : code.Need) (xs : List code.Need) → take (length (x ∷ xs) - 1) (drop 1 (x ∷ xs)) ≡ xs
tail_is x xs = take_all (length (x ∷ xs) - 1) xs (omega arith)

pub tail_fits : (needs : List code.Need) → NeedsHaveWidths (needs_in needs) →
    NeedsHaveWidths (needs_in (take (length needs - 1) (drop 1 needs)))
tail_fits [] fits = tt
tail_fits (x ∷ xs) fits = subst (λ (ys : List code.Need). NeedsHaveWidths (needs_in ys)) (sym (tail_is x xs)) fits.1

pub cons_is : (needs : List code.Need) (item : code.Need) → item ≡ get_or needs 0 item → 1 ≤ length needs →
    needs_in needs ≡ need_of item ∷ needs_in (take (length needs - 1) (drop 1 needs))
cons_is [] item is some = absurd (omega arith)
cons_is (x ∷ xs) item is some =
    ap (λ (y : code.Need). need_of y ∷ needs_in xs) (sym is)
    ∙ ap (λ (ys : List code.Need). need_of item ∷ needs_in ys) (sym (tail_is x xs))

-- a tree without a need
pub empty_fault : (task : Task) (n k : ℕ) (d : Derivation) (rest : Forest) (needs : List code.Need) → length needs < 1 →
    Fault n ≡ walked (first_fault task n (grows_of d rest) (needs_in needs)) k
empty_fault task n k d rest [] none = sym (ap (λ (f : Forest). walked (first_fault task n f []) k) (grows_of-tree d rest))
empty_fault task n k d rest (x ∷ xs) none = absurd (omega arith)
