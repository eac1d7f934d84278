-- The sequences of tiles whose derivations are one instruction.
use Rattle.std.proofs.Common.{◌≡◌, ◌∙◌, ◌+◌, ◌||◌, ◌&&◌, ℕ, List, [], ◌∷◌, ◌++◌, length, map, Bool, true, false, not, cond, Option, None, Some, nat_eq, slice_get, refl, sym, ap, subst, arith}
use Rattle.std.specs.List.{AllByRecursion, list_any}
use Rattle.std.proofs.lemmas.Bool.{and_from}
use Rattle.std.specs.Option.{option_map}
use Rattle.qc_descr.specs.declared.description.Description.{Description}
use Rattle.qc_tiles.specs.declared.tile.Tile.{Tile}
use Rattle.qc_tiles.specs.Names.{shape_of}
use Rattle.qc_code.specs.declared.template.Slot.{Slot}
use Rattle.qc_code.specs.declared.template.Template.{Template}
use Rattle.qc_terms.specs.declared.term.Dest.{Dest}
use Rattle.qc_terms.specs.declared.term.Dest.TheVariants as dest
use Rattle.qc_terms.specs.declared.term.Effect.{Effect}
use Rattle.qc_terms.specs.declared.term.Place.TheVariants as place
use Rattle.qc_descr.specs.declared.description.OperandKind.TheVariants as kind
use Rattle.qc_descr.specs.Valid.{EffectNames, IsValid, NamesDest}
use Rattle.qc_code.specs.declared.template.Slot.TheVariants as slot
use Rattle.qc_code.specs.TileHolds.{is_flag_space}
use Rattle.qc_code.specs.Work.{goes_to, named_by, place_in_line}
use Rattle.qc_code.specs.SpecialTiles.{MovesLinkAtOnce, MovesSlotsAtOnce, is_flag, is_one_line, moves_link, moves_slot, writes_flag}
use Rattle.qc_derivations.specs.declared.derivation.Bounds.{Bounds}
use Rattle.qc_derivations.specs.declared.derivation.Derivation.{Derivation}
use Rattle.qc_derivations.specs.Forest.{Cell, Child, Constant, Empty, Forest, Grow, Node, Own, Param, Spare, Stand, children_under, forest_of, is_there, node_of}
use Rattle.qc_derivations.specs.Goals.{AsTile, Need}
use Rattle.qc_derivations.specs.Law.Forest.{grows_of-tree}
use Rattle.qc_derivations.specs.Machine.{Assignment, Machine, assignment_of, assignments_of, destination_of, machine_of}
use Rattle.qc_derivations.specs.Matching.{Pair}
use Rattle.qc_derivations.specs.Nodes as nodes
use Rattle.qc_derivations.specs.Nodes.{Task, agree, child_needs, flag_need, is_child, need_before, needs_of, stands_spare, task_of}
use Rattle.qc_derivations.specs.Rules.{flag_pair, is_met, is_read, is_written, register_part, writes_operand}
use Rattle.qc_derivations.specs.Sequence.{assignments_in, lines_of, node_form, node_slots, scratches_from, scratches_of, sequence_of}
use Rattle.qc_derivations.specs.Valid.{AreValid, IsValidDerivation}
use Rattle.qc_conditions.proofs.Lines.{root_slot}
use Rattle.qc_conditions.proofs.Operands.{allocatable_no_flag, flags_same, has_instruction, operand_is, written_space}
use Rattle.qc_conditions.proofs.Optional.{and_both, or_left, or_neither, or_right}
use Rattle.qc_conditions.proofs.Rules.{KeepsRules, keeps_rules-of}
use Rattle.qc_conditions.proofs.Shapes.{is_told}

-- ---- no children

not_true : (b : Bool) → not b ≡ true → b ≡ false
not_true true e = absurd (cc e)
not_true false e = refl

or_then : (a b : Bool) → (not a || b) ≡ true → a ≡ true → b ≡ true
or_then true b e is = e
or_then false b e is = absurd (cc is)

no_child_needs : (number : ℕ) (stands : List Stand) (pairs : List Pair) → list_any is_child stands ≡ false → child_needs number stands pairs ≡ Some []
no_child_needs number [] pairs none = refl
no_child_needs number (stand ∷ stands) pairs none =
    let parts = or_neither (is_child stand) (list_any is_child stands) none in
    ap (λ b. cond b (need_before (register_part number pairs) (child_needs (number + 1) stands pairs)) (child_needs (number + 1) stands pairs)) parts.0
    ∙ no_child_needs (number + 1) stands pairs parts.1

no_flag_need : (it : Option Pair) (flag : Bool) → flag ≡ false → agree flag (is_there it) ≡ true → flag_need it ≡ []
no_flag_need None flag none e = refl
no_flag_need (Some x) true none e = absurd (cc none)
no_flag_need (Some x) false none e = absurd (cc e)

no_needs : (m : Machine) (node : Node) (pairs : List Pair) (inner : List Need) → needs_of m node pairs ≡ Some inner → list_any is_child node.stands ≡ false → node.flag ≡ false →
    agree node.flag (is_there (flag_pair m pairs)) ≡ true → inner ≡ []
no_needs m node pairs inner e none no_flag agrees =
    let it : Some ([] ++ flag_need (flag_pair m pairs)) ≡ Some inner =
    sym (ap (option_map (λ (ns : List Need). ns ++ flag_need (flag_pair m pairs))) (no_child_needs 0 node.stands pairs none)) ∙ e in
    let same : flag_need (flag_pair m pairs) ≡ inner = cc in
    sym same ∙ no_flag_need (flag_pair m pairs) node.flag no_flag agrees

no_children : (task : Task) (children : Forest) → AreValid task [] children → children ≡ Empty
no_children task Empty valid = refl
no_children task (Grow node children rest) valid = absurd valid

-- ---- the root alone

-- a sequence of one line, and the node of that line
pub record IsRootAlone (d : Description) (t : Tile) (laws : ℕ) (x : Template) : Type 0 where
  pub node : Node
  pub inner : List Need
  pub kept : KeepsRules (task_of d t laws) true (assignments_of t.rtl) node inner
  pub lines : x.instances ≡ (node.instruction, node_slots (machine_of d) (root_slot t) 0 node) ∷ []
  pub scratches : x.scratches ≡ scratches_of (machine_of d) (Grow node Empty Empty)
  pub no_child : list_any is_child node.stands ≡ false

pub root_alone : (d : Description) (t : Tile) (bounds : Bounds) (derivation : Derivation) → IsValidDerivation d t bounds derivation → (task_of d t bounds.laws).single ≡ true →
    IsRootAlone d t bounds.laws (sequence_of d t derivation)
unfolding sequence_of
root_alone d t bounds derivation derived single =
    let m : Machine = machine_of d in
    let task : Task = task_of d t bounds.laws in
    let node : Node = node_of derivation in
    let children : Forest = children_under derivation in
    let tree : forest_of derivation ≡ Grow node children Empty = grows_of-tree derivation Empty in
    let valid : AreValid task (AsTile (assignments_of t.rtl) ∷ []) (Grow node children Empty) = subst (AreValid task (AsTile (assignments_of t.rtl) ∷ [])) tree derived.nodes in
    let inner : List Need = valid.0 in
    let kept : KeepsRules task true (assignments_of t.rtl) node inner = keeps_rules-of task true (assignments_of t.rtl) node inner valid.1 in
    let rule = and_both (not task.single || (not node.flag && not (list_any is_child node.stands))) _ kept.single in
    let both = and_both (not node.flag) (not (list_any is_child node.stands)) (or_then task.single _ rule.0 single) in
    let none = no_needs m node kept.pairs inner kept.needs (not_true (list_any is_child node.stands) both.1) (not_true node.flag both.0) kept.flag in
    let empty : children ≡ Empty = no_children task children (subst (λ ns. AreValid task ns children) none valid.2) in
    let whole : forest_of derivation ≡ Grow node Empty Empty = tree ∙ ap (λ cs. Grow node cs Empty) empty in
    record {
      node = node;
      inner = inner;
      kept = kept;
      lines = ap (λ forest. lines_of m forest (root_slot t ∷ []) 0) whole;
      scratches = ap (scratches_of m) whole;
      no_child = not_true (list_any is_child node.stands) both.1;
    }

pub link : (d : Description) (t : Tile) (bounds : Bounds) (derivation : Derivation) → IsValidDerivation d t bounds derivation → MovesLinkAtOnce t (sequence_of d t derivation)
link d t bounds derivation derived = go (moves_link (shape_of t.name)) refl
  where
    go : (b : Bool) → moves_link (shape_of t.name) ≡ b → (not b || is_one_line (sequence_of d t derivation)) ≡ true
    go false is = refl
    go true is =
        let alone = root_alone d t bounds derivation derived (or_then (moves_link (shape_of t.name)) _ (is_told (shape_of t.name)).link is) in
        ap (λ ls. nat_eq (length ls) 1) alone.lines

-- ---- slots of the frame

no_scratches : (m : Machine) (assignments : List Assignment) (number : ℕ) (stands : List Stand) → list_any is_child stands ≡ false → list_any stands_spare stands ≡ false → scratches_from m assignments number stands ≡ 0
no_scratches m assignments number [] child spare = refl
no_scratches m assignments number (Own ∷ stands) child spare = let deep = no_scratches m assignments (number + 1) stands child spare in omega (arith, deep)
no_scratches m assignments number (Param n ∷ stands) child spare = let deep = no_scratches m assignments (number + 1) stands child spare in omega (arith, deep)
no_scratches m assignments number (Cell a b ∷ stands) child spare = let deep = no_scratches m assignments (number + 1) stands child spare in omega (arith, deep)
no_scratches m assignments number (Constant t ∷ stands) child spare = let deep = no_scratches m assignments (number + 1) stands child spare in omega (arith, deep)
no_scratches m assignments number (Child ∷ stands) child spare = absurd (cc child)
no_scratches m assignments number (Spare ∷ stands) child spare = absurd (cc spare)

no_flag_named : (d : Description) (space : ℕ) (it : Option Slot) → is_flag_space d space ≡ false → is_flag d (named_by space it) ≡ false
no_flag_named d space None none = refl
no_flag_named d space (Some (slot.Param n)) none = refl
no_flag_named d space (Some (slot.Scratch n)) none = refl
no_flag_named d space (Some (slot.Cell n)) none = none
no_flag_named d space (Some (slot.Constant t)) none = refl
no_flag_named d space (Some slot.Target) none = refl

itself : (n : ℕ) → nat_eq n n ≡ true
itself n = grind arith

module _ (d : Description) (t : Tile) (laws : ℕ) (valid : IsValid d) (node : Node) (inner : List Need) (own : Slot) (kept : KeepsRules (task_of d t laws) true (assignments_of t.rtl) node inner) where
  dest_no_flag : (x : Dest) → NamesDest d.facts.word kept.form.kinds x → nodes.is_flag_destination (machine_of d) (destination_of x) ≡ false →
      ((n : ℕ) → writes_operand n (destination_of x) ≡ true → is_written n kept.form.assignments ≡ true) →
      goes_to (is_flag d) (place_in_line (node_slots (machine_of d) own 0 node)) x ≡ false
  dest_no_flag (dest.Reg (place.Cell space index)) names none within = sym (flags_same d space) ∙ none
  dest_no_flag (dest.Reg (place.Operand space number)) names none within =
      let it = operand_is (task_of d t laws) true (assignments_of t.rtl) node inner own 0 number (kind.Register space) kept names in
      let here : space ≡ d.allocatable = written_space (machine_of d) true (is_read number kept.form.assignments) (is_written number kept.form.assignments) (is_met number kept.pairs) space it.stand it.suits
      (within number (itself number)) in
      no_flag_named d space (slice_get (node_slots (machine_of d) own 0 node) number) (ap (is_flag_space d) here ∙ allocatable_no_flag d valid)
  dest_no_flag (dest.Mem width address) names none within = refl
  dest_no_flag dest.Pc names none within = refl
  dest_no_flag dest.Out names none within = refl
  dest_no_flag dest.Halt names none within = refl
  dest_no_flag dest.Trap names none within = refl

  effects_no_flag : (es : List Effect) → AllByRecursion (EffectNames d.facts.word kept.form.kinds) es → list_any (nodes.writes_flag (machine_of d)) (map assignment_of es) ≡ false →
      ((n : ℕ) → list_any (λ (a : Assignment). writes_operand n a.to) (map assignment_of es) ≡ true → is_written n kept.form.assignments ≡ true) →
      list_any (λ e. goes_to (is_flag d) (place_in_line (node_slots (machine_of d) own 0 node)) e.to) es ≡ false
  effects_no_flag [] names none within = refl
  effects_no_flag (e ∷ es) names none within =
      let parts = or_neither (nodes.writes_flag (machine_of d) (assignment_of e)) (list_any (nodes.writes_flag (machine_of d)) (map assignment_of es)) none in
      ap (λ b. b || list_any (λ e. goes_to (is_flag d) (place_in_line (node_slots (machine_of d) own 0 node)) e.to) es)
      (dest_no_flag e.to names.0.to parts.0 (λ n writes. within n (or_left (writes_operand n (destination_of e.to)) (list_any (λ (a : Assignment). writes_operand n a.to) (map assignment_of es)) writes)))
      ∙ effects_no_flag es names.1 parts.1 (λ n writes. within n (or_right (writes_operand n (destination_of e.to)) (list_any (λ (a : Assignment). writes_operand n a.to) (map assignment_of es)) writes))

  pub line_no_flag : list_any (nodes.writes_flag (machine_of d)) kept.form.assignments ≡ false → writes_flag d (node.instruction, node_slots (machine_of d) own 0 node) ≡ false
  line_no_flag none =
      let it = has_instruction d kept.form node valid kept.is_form in
      ap (λ (es : List Effect). list_any (λ e. goes_to (is_flag d) (place_in_line (node_slots (machine_of d) own 0 node)) e.to) es) it.effects
      ∙ effects_no_flag it.instruction.rtl.effects it.names (subst (λ all. list_any (nodes.writes_flag (machine_of d)) all ≡ false) it.assignments none)
      (λ n writes. ap (is_written n) it.assignments ∙ writes)

pub slots : (d : Description) (t : Tile) (bounds : Bounds) (derivation : Derivation) → IsValid d → IsValidDerivation d t bounds derivation → MovesSlotsAtOnce d t (sequence_of d t derivation)
slots d t bounds derivation valid derived = go (moves_slot (shape_of t.name)) refl
  where
    go : (b : Bool) → moves_slot (shape_of t.name) ≡ b →
        (not b || (is_one_line (sequence_of d t derivation)
        && (nat_eq (sequence_of d t derivation).scratches 0 && not (list_any (writes_flag d) (sequence_of d t derivation).instances)))) ≡ true
    go false is = refl
    go true is =
        let m : Machine = machine_of d in
        let x : Template = sequence_of d t derivation in
        let task : Task = task_of d t bounds.laws in
        let alone = root_alone d t bounds derivation derived (or_then (moves_slot (shape_of t.name)) _ (is_told (shape_of t.name)).slot is) in
        let node : Node = alone.node in
        let kept = alone.kept in
        let bare : task.bare ≡ true = sym (is_told (shape_of t.name)).bare ∙ is in
        let rule = and_both (not task.single || (not node.flag && not (list_any is_child node.stands)))
        (not task.bare || (not (list_any stands_spare node.stands) && not (list_any (nodes.writes_flag m) kept.form.assignments))) kept.single in
        let both = and_both (not (list_any stands_spare node.stands)) (not (list_any (nodes.writes_flag m) kept.form.assignments)) (or_then task.bare _ rule.1 bare) in
        let one : is_one_line x ≡ true = ap (λ ls. nat_eq (length ls) 1) alone.lines in
        let few = no_scratches m (assignments_in (node_form m node)) 0 node.stands alone.no_child (not_true (list_any stands_spare node.stands) both.0) in
        let two : nat_eq x.scratches 0 ≡ true = ap (λ n. nat_eq n 0) (alone.scratches ∙ (let sum : scratches_of m (Grow node Empty Empty) ≡ 0 = omega (arith, few) in sum)) in
        let line = line_no_flag d t bounds.laws valid node alone.inner (root_slot t) kept (not_true (list_any (nodes.writes_flag m) kept.form.assignments) both.1) in
        let three : not (list_any (writes_flag d) x.instances) ≡ true = ap (λ ls. not (list_any (writes_flag d) ls)) alone.lines ∙ ap (λ b. not (b || false)) line in
        and_from (is_one_line x) (nat_eq x.scratches 0 && not (list_any (writes_flag d) x.instances)) one
        (and_from (nat_eq x.scratches 0) (not (list_any (writes_flag d) x.instances)) two three)
