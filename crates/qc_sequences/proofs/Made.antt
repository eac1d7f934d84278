-- The lines of a derivation's tree alone, and before other trees.
use Rattle.std.proofs.Common.{arith, ◌≡◌, ◌∙◌, ℕ, ◌+◌, Bool, true, false, if◌then◌else◌, Option, None, Some, List, [], ◌∷◌, ◌++◌, refl, ap, sym, append_assoc, drop, take, get_or, length, length-append, ◌-◌, ◌≤◌}
use Rattle.std.proofs.lemmas.List.{map-append, take_all}
use Rattle.qc_descr.specs.declared.description.OperandKind.{OperandKind}
use Rattle.qc_code.specs.declared.template.Slot.{Slot}
use Rattle.qc_code.specs.declared.template.Slot.TheVariants as slot
use Rattle.qc_code.specs.Setting.{Line}
use Rattle.qc_derivations.specs.declared.derivation.Derivation.{Derivation}
use Rattle.qc_derivations.specs.Forest.{Bound, Cell, Child, Constant, Empty, Forest, Stand, children_under, forest_of, grow_all, grows_of, grows_of_flag, is_there, node_of, Own, Param, Spare}
use Rattle.qc_derivations.specs.Law.Forest.{grows_of-tree}
use Rattle.qc_derivations.specs.Machine.{Machine}
use Rattle.qc_derivations.specs.Sequence.{assignments_in, child_slots, kinds_in, lines_of, node_form, node_scratches, node_slots, own_slots, scratches_of, slot_if_there}
use Rattle.qc_sequences.specs.declared.homes.Home.{Home}
use Rattle.qc_sequences.specs.declared.homes.Made.{Made}
use Rattle.qc_sequences.specs.declared.homes.Row.{Row}
use Rattle.qc_sequences.specs.Inner.Homes.{IsMade, IsRow, home_slot, home_slots, trees_in}

pub tree_lines : (m : Machine) (d : Derivation) (own : Slot) (scratch : ℕ) →
    lines_of m (forest_of d) (own ∷ []) scratch
    ≡ lines_of m (children_under d) (own_slots own (node_of d) (node_slots m own scratch (node_of d))) (scratch + node_scratches m (node_of d))
    ++ ((node_of d).instruction, node_slots m own scratch (node_of d)) ∷ []
tree_lines m d own scratch = ap (λ (f : Forest). lines_of m f (own ∷ []) scratch) (grows_of-tree d Empty)

pub tree_scratches : (m : Machine) (d : Derivation) →
    scratches_of m (forest_of d) ≡ node_scratches m (node_of d) + scratches_of m (children_under d)
tree_scratches m d = ap (scratches_of m) (grows_of-tree d Empty) ∙ omega arith

pub before_scratches : (m : Machine) (d : Derivation) (rest : Forest) →
    scratches_of m (grows_of d rest) ≡ scratches_of m (forest_of d) + scratches_of m rest
before_scratches m d rest =
    let whole = ap (scratches_of m) (grows_of-tree d rest) in
    let alone = tree_scratches m d in omega (arith, whole, alone)

pub before_trees : (d : Derivation) (rest : Forest) → trees_in (grows_of d rest) ≡ 1 + trees_in rest
before_trees d rest = ap trees_in (grows_of-tree d rest)

pub before_lines : (m : Machine) (d : Derivation) (rest : Forest) (own : Slot) (owns : List Slot) (scratch : ℕ) →
    lines_of m (grows_of d rest) (own ∷ owns) scratch
    ≡ lines_of m (forest_of d) (own ∷ []) scratch ++ lines_of m rest owns (scratch + scratches_of m (forest_of d))
before_lines m d rest own owns scratch =
    let slots = node_slots m own scratch (node_of d) in
    let inner = lines_of m (children_under d) (own_slots own (node_of d) slots) (scratch + node_scratches m (node_of d)) in
    let line : Line = ((node_of d).instruction, slots) in
    let after = λ (k : ℕ). lines_of m rest owns (scratch + k) in
    ap (λ (f : Forest). lines_of m f (own ∷ owns) scratch) (grows_of-tree d rest)
    ∙ ap (λ (k : ℕ). inner ++ (line ∷ after k)) (sym (tree_scratches m d))
    ∙ sym (append_assoc inner (line ∷ []) (after (scratches_of m (forest_of d))))
    ∙ sym (ap (λ (ls : List Line). ls ++ after (scratches_of m (forest_of d))) (tree_lines m d own scratch))

-- ---- what makes them

own_homes : (flag : Bool) (own : Home) →
    home_slots (if flag then own ∷ [] else []) ≡ (if flag then home_slot own ∷ [] else [])
own_homes true own = refl
own_homes false own = refl

-- the registers of a node's children
homes_are : (stands : List Stand) (slots : List Slot) (flag : Bool) (own : Home) (homes all : List Home) →
    home_slots homes ≡ child_slots stands slots → all ≡ homes ++ (if flag then own ∷ [] else []) →
    home_slots all ≡ child_slots stands slots ++ (if flag then home_slot own ∷ [] else [])
homes_are stands slots flag own homes all same e =
    ap home_slots e ∙ map-append home_slot homes (if flag then own ∷ [] else [])
    ∙ ap (λ (ss : List Slot). ss ++ home_slots (if flag then own ∷ [] else [])) same
    ∙ ap (λ (ss : List Slot). child_slots stands slots ++ ss) (own_homes flag own)

-- A node's row and its children's lines make its tree's.
pub made_tree : (m : Machine) (d : Derivation) (own : Home) (scratch : ℕ) (bounds : List Bound) (row : Row) (all : List Home) (made : Made) →
    IsRow m (assignments_in (node_form m (node_of d))) (kinds_in (node_form m (node_of d))) own 0 scratch (node_of d).stands bounds row →
    all ≡ row.homes ++ (if (node_of d).flag then own ∷ [] else []) →
    IsMade m (children_under d) (home_slots all) row.next made →
    (made.lines ++ ((node_of d).instruction, row.slots) ∷ [] ≡ lines_of m (forest_of d) (home_slot own ∷ []) scratch)
    × (made.next ≡ scratch + scratches_of m (forest_of d))
made_tree m d own scratch bounds row all made is e below =
    let node = node_of d in
    let slots = node_slots m (home_slot own) scratch node in
    let homes = homes_are node.stands slots node.flag own row.homes all is.homes e in
    let nodes = tree_scratches m d in
    let next = is.next in
    let last = below.next in (
      ap (λ (ls : List Line). ls ++ (node.instruction, row.slots) ∷ []) below.lines
          ∙ ap (λ (ss : List Slot). lines_of m (children_under d) (home_slots all) row.next ++ (node.instruction, ss) ∷ []) is.slots
          ∙ ap (λ (owns : List Slot). lines_of m (children_under d) owns row.next ++ (node.instruction, slots) ∷ []) homes
          ∙ ap (λ (k : ℕ). lines_of m (children_under d) (own_slots (home_slot own) node slots) k ++ (node.instruction, slots) ∷ []) next
          ∙ sym (tree_lines m d (home_slot own) scratch),
      omega (arith, nodes, next, last),
    )

-- A tree's lines and those of what stands beside it make the lines of both.
pub made_before : (m : Machine) (d : Derivation) (rest : Forest) (home : Slot) (homes : List Slot) (scratch : ℕ) (first others : Made) →
    IsMade m (forest_of d) (home ∷ []) scratch first → IsMade m rest homes first.next others →
    (first.lines ++ others.lines ≡ lines_of m (grows_of d rest) (home ∷ homes) scratch)
    × (others.next ≡ scratch + scratches_of m (grows_of d rest))
made_before m d rest home homes scratch first others one two =
    let both = before_scratches m d rest in
    let next = one.next in
    let last = two.next in (
      ap (λ (ls : List Line). ls ++ others.lines) one.lines
          ∙ ap (λ (ls : List Line). lines_of m (forest_of d) (home ∷ []) scratch ++ ls) two.lines
          ∙ ap (λ (k : ℕ). lines_of m (forest_of d) (home ∷ []) scratch ++ lines_of m rest homes k) next
          ∙ sym (before_lines m d rest home homes scratch),
      omega (arith, both, next, last),
    )

-- there are as many registers as trees
pub homes_suffice : (own : Home) (flag : Option Derivation) (bounds : List Bound) (homes all : List Home) →
    ((rest : Forest) → trees_in (grow_all bounds rest) ≡ length homes + trees_in rest) →
    all ≡ homes ++ (if is_there flag then own ∷ [] else []) →
    length all ≡ trees_in (grow_all bounds (grows_of_flag flag))
homes_suffice own None bounds homes all trees e =
    let counted = trees Empty in
    let whole = ap length e in
    let sum = length-append homes [] in omega (arith, counted, whole, sum)
homes_suffice own (Some d) bounds homes all trees e =
    let counted = trees (forest_of d) in
    let one = before_trees d Empty in
    let whole = ap length e in
    let sum = length-append homes (own ∷ []) in omega (arith, counted, one, whole, sum)

-- ---- the register of a child

pub home_there : (m : Machine) (own : Slot) (written : Bool) (scratch : ℕ) (stand : Stand) (kind : Option OperandKind) (k : OperandKind)
    (home : Slot) → stand ≡ Child → kind ≡ Some k → home ≡ (if written then own else slot.Scratch scratch) →
    home ∷ [] ≡ child_slots (stand ∷ []) (slot_if_there m own written scratch stand kind ∷ [])
home_there m own written scratch stand kind k home stands there is =
    ap (λ (h : Slot). h ∷ []) is
    ∙ sym (ap (λ (s : Stand). child_slots (s ∷ []) (slot_if_there m own written scratch s kind ∷ [])) stands
    ∙ ap (λ (o : Option OperandKind). child_slots (Child ∷ []) (slot_if_there m own written scratch Child o ∷ [])) there)

pub home_absent : (m : Machine) (own : Slot) (written : Bool) (scratch : ℕ) (stand : Stand) (kind : Option OperandKind) →
    stand ≡ Child → kind ≡ None → own ∷ [] ≡ child_slots (stand ∷ []) (slot_if_there m own written scratch stand kind ∷ [])
home_absent m own written scratch stand kind stands there =
    sym (ap (λ (s : Stand). child_slots (s ∷ []) (slot_if_there m own written scratch s kind ∷ [])) stands
    ∙ ap (λ (o : Option OperandKind). child_slots (Child ∷ []) (slot_if_there m own written scratch Child o ∷ [])) there)

-- ---- rows

child_first : (stand : Stand) (stands : List Stand) (s : Slot) (slots : List Slot) →
    child_slots (stand ∷ stands) (s ∷ slots) ≡ child_slots (stand ∷ []) (s ∷ []) ++ child_slots stands slots
child_first Own stands s slots = refl
child_first Spare stands s slots = refl
child_first Child stands s slots = refl
child_first (Param number) stands s slots = refl
child_first (Cell space index) stands s slots = refl
child_first (Constant term) stands s slots = refl

-- the registers of a row with one operand more
pub homes_first : (stand : Stand) (stands : List Stand) (s : Slot) (slots : List Slot) (home : List Home) (homes all : List Home) →
    all ≡ home ++ homes → home_slots home ≡ child_slots (stand ∷ []) (s ∷ []) → home_slots homes ≡ child_slots stands slots →
    home_slots all ≡ child_slots (stand ∷ stands) (s ∷ slots)
homes_first stand stands s slots home homes all e one others =
    ap home_slots e ∙ map-append home_slot home homes ∙ ap (λ (x : List Slot). x ++ home_slots homes) one
    ∙ ap (λ (x : List Slot). child_slots (stand ∷ []) (s ∷ []) ++ x) others ∙ sym (child_first stand stands s slots)

-- ---- registers in order

tail_is : (x : Home) (xs : List Home) → take (length (x ∷ xs) - 1) (drop 1 (x ∷ xs)) ≡ xs
tail_is x xs = take_all (length (x ∷ xs) - 1) xs (omega arith)

pub tail_length : (homes : List Home) → length (take (length homes - 1) (drop 1 homes)) ≡ length homes - 1
tail_length [] = refl
tail_length (x ∷ xs) = let e = ap length (tail_is x xs) in omega (arith, e)

pub homes_in_order : (homes : List Home) (home : Home) → home ≡ get_or homes 0 home → 1 ≤ length homes →
    home_slots homes ≡ home_slot home ∷ home_slots (take (length homes - 1) (drop 1 homes))
homes_in_order [] home is some = absurd (omega arith)
homes_in_order (x ∷ xs) home is some =
    ap (λ (y : Home). home_slot y ∷ home_slots xs) (sym is)
    ∙ ap (λ (ys : List Home). home_slot home ∷ home_slots ys) (sym (tail_is x xs))
