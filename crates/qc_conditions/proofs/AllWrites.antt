-- Each line of a sequence writes scratches, flags and the zero cell, and the last one what the tile writes.
use Rattle.std.proofs.Common.{◌≡◌, ◌∙◌, ◌⊎◌, ◌||◌, ◌&&◌, ℕ, List, [], ◌∷◌, length, map, filter, Bool, true, false, Some, All, Contains, get_or, inl, inr, refl, sym, ap, subst, arith}
use Rattle.std.specs.List.{AllByRecursion, list_all, list_any}
use Rattle.std.proofs.lemmas.Bool.{and_from}
use Rattle.std.proofs.lemmas.List.Elements.{All-contains, All-map, recursion_from_All}
use Rattle.qc_terms.specs.declared.term.Dest.TheVariants as dest
use Rattle.qc_terms.specs.declared.term.Effect.{Effect}
use Rattle.qc_terms.specs.declared.term.Place.{Place}
use Rattle.qc_descr.specs.declared.description.Description.{Description}
use Rattle.qc_descr.specs.Description.{context_of_description}
use Rattle.qc_descr.specs.Valid.{IsValid}
use Rattle.qc_tiles.specs.declared.shape.Shape.{Shape}
use Rattle.qc_tiles.specs.declared.shape.Shape.TheVariants as shape
use Rattle.qc_tiles.specs.declared.tile.Tile.{Tile}
use Rattle.qc_tiles.specs.declared.tile.TileFacts.{TileFacts}
use Rattle.qc_tiles.specs.Law.Descriptions.{description_tiles}
use Rattle.qc_tiles.specs.Names.{all_names, shape_of}
use Rattle.qc_tiles.specs.Sound.{DestNamesOwn, EffectNamesOwn, IsOwnPlace, IsSoundTile, facts_of}
use Rattle.qc_tiles.specs.Tiles.{effects_of, stands_at, tile_of, tiles_among, tiles_of}
use Rattle.qc_code.specs.declared.template.Slot.{Slot}
use Rattle.qc_code.specs.declared.template.Slot.TheVariants as slot
use Rattle.qc_code.specs.Registers.{WritesAsTile, writes_as_tile}
use Rattle.qc_code.specs.Work.{goes_to, is_inner, is_same_dest, place_in_line, place_in_tile}
use Rattle.qc_derivations.specs.declared.derivation.Bounds.{Bounds}
use Rattle.qc_derivations.specs.declared.derivation.Derivation.{Derivation}
use Rattle.qc_derivations.specs.Forest.{Node}
use Rattle.qc_derivations.specs.Goals.{Need, goals_after, goals_of, is_root}
use Rattle.qc_derivations.specs.Machine.{ToPlace, assignment_of, assignments_of, destination_of, machine_of}
use Rattle.qc_derivations.specs.Nodes.{Task, is_allowed, task_of}
use Rattle.qc_derivations.specs.Sequence.{node_slots, own_slot, own_slot_or, place_slot, sequence_of}
use Rattle.qc_derivations.specs.Valid.{IsValidDerivation}
use Rattle.qc_conditions.proofs.Below.{child_below, root_below}
use Rattle.qc_conditions.proofs.Lines.{root_slot, sequence_lines}
use Rattle.qc_conditions.proofs.Operands.{has_instruction}
use Rattle.qc_conditions.proofs.Optional.{and_both, or_left}
use Rattle.qc_conditions.proofs.RootWrites.{root_effects}
use Rattle.qc_conditions.proofs.Rules.{KeepsRules}
use Rattle.qc_conditions.proofs.Writes.{IsOwnOf, all_inner, child_goal, goal_of, place_of}

-- ---- the register of a tile

tile_shapes : (f : TileFacts) (s : Shape) → (length (effects_of f s) ≡ 1) ⊎ (effects_of f s ≡ effects_of f shape.Call)
tile_shapes f shape.Call = inr refl
tile_shapes f shape.Move = inl (omega arith)
tile_shapes f shape.Const = inl (omega arith)
tile_shapes f (shape.Unary op) = inl (omega arith)
tile_shapes f (shape.Binary op) = inl (omega arith)
tile_shapes f (shape.Test op) = inl (omega arith)
tile_shapes f (shape.Branch op) = inl (omega arith)
tile_shapes f (shape.LoadPart bits) = inl (omega arith)
tile_shapes f shape.LoadWord = inl (omega arith)
tile_shapes f (shape.StorePart bits) = inl (omega arith)
tile_shapes f shape.StoreWord = inl (omega arith)
tile_shapes f shape.Goto = inl (omega arith)
tile_shapes f shape.Ret = inl (omega arith)
tile_shapes f shape.SaveLink = inl (omega arith)
tile_shapes f shape.LoadLink = inl (omega arith)
tile_shapes f shape.Spill = inl (omega arith)
tile_shapes f shape.Reload = inl (omega arith)
tile_shapes f shape.Frame = inl (omega arith)
tile_shapes f shape.In = inl (omega arith)
tile_shapes f shape.Out = inl (omega arith)
tile_shapes f shape.Halt = inl (omega arith)
tile_shapes f shape.Trap = inl (omega arith)

abbrev HasShape : TileFacts → Tile → Type 0
HasShape f t = (length t.rtl.effects ≡ 1) ⊎ (t.rtl.effects ≡ effects_of f shape.Call)

all_have_shapes : (f : TileFacts) → All (HasShape f) (tiles_of f)
unfolding tiles_among
all_have_shapes f =
    All-map (HasShape f) (tile_of f) (filter (λ name. stands_at f.word (shape_of name)) all_names)
    (λ k d below. tile_shapes f (shape_of (get_or (filter (λ name. stands_at f.word (shape_of name)) all_names) k d)))

abbrev Register : Slot → Effect → Type 0
Register own f = (q : Place) → f.to ≡ dest.Reg q → own ≡ place_slot q

one_register : (es : List Effect) → length es ≡ 1 → AllByRecursion (Register (own_slot (map assignment_of es))) es
one_register [] one = absurd (omega (arith, one))
one_register (f ∷ []) one = ((λ q is. ap (λ x. own_slot_or (slot.Param 0) (destination_of x)) is), tt)
one_register (f ∷ g ∷ es) one = absurd (omega (arith, one))

call_register : (f : TileFacts) → AllByRecursion (Register (own_slot (map assignment_of (effects_of f shape.Call)))) (effects_of f shape.Call)
call_register f = (
  (λ q is. ap (λ x. own_slot_or (slot.Param 0) (destination_of x)) is),
  ((λ q is. absurd (cc is)), tt),
)

-- the slot of the root's own is that of each register that the tile writes
registers : (d : Description) (t : Tile) → Contains (tiles_of (facts_of d)) t → AllByRecursion (Register (root_slot t)) t.rtl.effects
registers d t listed = elim (All-contains (HasShape (facts_of d)) (tiles_of (facts_of d)) t (all_have_shapes (facts_of d)) listed) [
  | inl one ↦ one_register t.rtl.effects one
  | inr call ↦ subst (λ es. AllByRecursion (Register (own_slot (map assignment_of es))) es) (sym call) (call_register (facts_of d))
]

abbrev OwnsOf : Description → Slot → Effect → Type 0
OwnsOf d own f = (q : Place) → f.to ≡ dest.Reg q → (own ≡ place_slot q) × IsOwnPlace (facts_of d) q

with_places : (d : Description) (own : Slot) (es : List Effect) → AllByRecursion (Register own) es → AllByRecursion (EffectNamesOwn (facts_of d)) es → AllByRecursion (OwnsOf d own) es
with_places d own [] one two = tt
with_places d own (e ∷ es) one two = ((λ q is. (one.0 q is, subst (DestNamesOwn (facts_of d)) is two.0.to)), with_places d own es one.1 two.1)

-- ---- sequences

false_or : (test more : Effect → Bool) (es : List Effect) → list_all test es ≡ true → list_all (λ e. test e || (false && more e)) es ≡ true
false_or test more [] all = refl
false_or test more (e ∷ es) all =
    let parts = and_both (test e) (list_all test es) all in
    and_from (test e || (false && more e)) (list_all (λ e. test e || (false && more e)) es) (or_left (test e) (false && more e) parts.0) (false_or test more es parts.1)

child_line : (d : Description) (t : Tile) (laws : ℕ) (need : Need) (own : Slot) (scratch : ℕ) (node : Node) (inner : List Need) → IsValid d → is_root need ≡ false → IsOwnOf d need own →
    KeepsRules (task_of d t laws) false (goals_of need) node inner → writes_as_tile d t false (node.instruction, node_slots (machine_of d) own scratch node) ≡ true
child_line d t laws need own scratch node inner valid no_root known kept =
    let slots : List Slot = node_slots (machine_of d) own scratch node in
    let it = has_instruction d kept.form node valid kept.is_form in
    let goal = goal_of need no_root in
    let after = child_goal node.steps (ToPlace (place_of need)) goal.0 kept.rewritten (subst (λ gs. goals_after false node.steps gs ≡ Some kept.rewritten) goal.1 kept.is_rewritten) in
    let allowed = subst (λ xs. list_all (is_allowed (machine_of d) false node.stands kept.rewritten) xs ≡ true) it.assignments kept.allowed in
    let inside = all_inner d (task_of d t laws) refl false (goals_of need) node inner kept own scratch need after.0 it.instruction.rtl.effects known it.names
    (subst (λ gs. list_all (is_allowed (machine_of d) false node.stands gs) (map assignment_of it.instruction.rtl.effects) ≡ true) after.1 allowed) in
    let test : Effect → Bool = λ e. goes_to (is_inner d) (place_in_line slots) e.to in
    let more : Effect → Bool = λ e. list_any (λ (f : Effect). is_same_dest (place_in_line slots) e.to place_in_tile f.to) t.rtl.effects in
    ap (λ (es : List Effect). list_all (λ e. test e || (false && more e)) es) it.effects ∙ false_or test more it.instruction.rtl.effects inside

root_line : (d : Description) (t : Tile) (laws : ℕ) (node : Node) (inner : List Need) → IsValid d → AllByRecursion (OwnsOf d (root_slot t)) t.rtl.effects →
    KeepsRules (task_of d t laws) true (assignments_of t.rtl) node inner → writes_as_tile d t true (node.instruction, node_slots (machine_of d) (root_slot t) 0 node) ≡ true
root_line d t laws node inner valid owns kept =
    let slots : List Slot = node_slots (machine_of d) (root_slot t) 0 node in
    let it = has_instruction d kept.form node valid kept.is_form in
    let allowed = subst (λ xs. list_all (is_allowed (machine_of d) true node.stands kept.rewritten) xs ≡ true) it.assignments kept.allowed in
    let test : Effect → Bool = λ e. goes_to (is_inner d) (place_in_line slots) e.to in
    let more : Effect → Bool = λ e. list_any (λ (f : Effect). is_same_dest (place_in_line slots) e.to place_in_tile f.to) t.rtl.effects in
    ap (λ (es : List Effect). list_all (λ e. test e || (true && more e)) es) it.effects
    ∙ root_effects d valid (task_of d t laws) refl (assignments_of t.rtl) node inner kept (root_slot t) t.rtl.effects refl owns it.instruction.rtl.effects it.names allowed

pub writes : (d : Description) (t : Tile) (bounds : Bounds) (derivation : Derivation) → IsValid d → Contains (tiles_of (facts_of d)) t → IsValidDerivation d t bounds derivation → WritesAsTile d t (sequence_of d t derivation)
writes d t bounds derivation valid listed derived =
    let task : Task = task_of d t bounds.laws in
    let sound : IsSoundTile (context_of_description d) (facts_of d) t = All-contains (IsSoundTile (context_of_description d) (facts_of d)) (tiles_of (facts_of d)) t (description_tiles d valid) listed in
    let owns = with_places d (root_slot t) t.rtl.effects (registers d t listed) (recursion_from_All (EffectNamesOwn (facts_of d)) t.rtl.effects sound.cells) in
    sequence_lines d t bounds derivation (IsOwnOf d) (writes_as_tile d t) derived
    (λ need own scratch node inner no_root known kept. child_line d t bounds.laws need own scratch node inner valid no_root known kept)
    (λ need own scratch node inner no_root known kept. child_below d task refl own scratch node inner need no_root known kept)
    (λ node inner kept. root_line d t bounds.laws node inner valid owns kept)
    (λ node inner kept. root_below d task refl (root_slot t) 0 node inner (assignments_of t.rtl) kept)
