-- The tile holds of the sequence of each valid derivation, for each tile of a machine.
use Rattle.std.proofs.Common.{option_and_then, ◌≡◌, ◌∙◌, ◌⊎◌, ◌+◌, ◌-◌, ℕ, suc, List, [], ◌∷◌, ◌++◌, length, map, take, filter, true, None, Some, IsSome, All, Contains, slice_index, get_or, inl, inr, refl, sym, ap, subst, arith}
use Rattle.std.specs.List.{AllByRecursion}
use Rattle.std.specs.Option.{option_map}
use Rattle.std.proofs.lemmas.List.Elements.{All-contains, All-map, recursion_from_All}
use Rattle.qc_terms.specs.declared.state.State.{State}
use Rattle.qc_terms.specs.declared.term.Dest.{Dest}
use Rattle.qc_terms.specs.declared.term.Effect.{Effect}
use Rattle.qc_terms.specs.Effects.{outcome_of, writes_of_effect, ToCell, ToCounter, Write, write_of}
use Rattle.qc_terms.specs.State.{context_of}
use Rattle.qc_terms.specs.Tree.{AddressAfter, Tree}
use Rattle.qc_terms.specs.Typing.{EffectFits, IsTypedEffect}
use Rattle.qc_descr.specs.declared.description.Description.{Description}
use Rattle.qc_descr.specs.Description.{context_of_description}
use Rattle.qc_descr.specs.Valid.{EffectNames, IsValid}
use Rattle.qc_tiles.specs.declared.shape.Shape.{Shape}
use Rattle.qc_tiles.specs.declared.tile.Tile.{Tile}
use Rattle.qc_tiles.specs.declared.tile.TileFacts.{TileFacts}
use Rattle.qc_tiles.specs.Names.{all_names, shape_of}
use Rattle.qc_tiles.specs.Sound.{EffectNamesOwn, IsSoundTile, facts_of, kinds_of_tile}
use Rattle.qc_tiles.specs.Tiles.{effects_of, gives, stands_at, tile_of, tiles_among, tiles_of, word_operand}
use Rattle.qc_tiles.specs.Law.Descriptions.{description_tiles}
use Rattle.qc_tiles.specs.Law.Effects.{gives_no_input}
use Rattle.qc_code.specs.declared.template.Slot.{Slot}
use Rattle.qc_code.specs.declared.template.Template.{Template}
use Rattle.qc_code.specs.Running.{run_of}
use Rattle.qc_code.specs.Setting.{Line, transfers_from}
use Rattle.qc_code.specs.TileHolds.{DoesAs, TileHolds}
use Rattle.qc_code.specs.Law.Slots.{IsReady, tile_is_ready}
use Rattle.qc_derivations.specs.declared.derivation.Bounds.{Bounds}
use Rattle.qc_derivations.specs.declared.derivation.Derivation.{Derivation}
use Rattle.qc_derivations.specs.Forest.{Empty, Forest, Grow, Node, children_under, forest_of, node_of}
use Rattle.qc_derivations.specs.Law.Forest.{grows_of-tree}
use Rattle.qc_derivations.specs.Goals.{AsTile}
use Rattle.qc_derivations.specs.Machine.{Machine, assignment_of, assignments_of, machine_of}
use Rattle.qc_derivations.specs.Nodes.{task_of}
use Rattle.qc_derivations.specs.Sequence.{node_scratches, node_slots, own_slot, own_slots, sequence_of}
use Rattle.qc_derivations.specs.Valid.{AreValid, IsValidDerivation}
use Rattle.qc_soundness.proofs.ForestHolds.{run_lines}
use Rattle.qc_soundness.proofs.Goals.{KeepsRules, Laws, keeps_rules-of}
use Rattle.qc_soundness.proofs.GoThrough.{forest_quiet, needs_are_inner, quiet_through}
use Rattle.qc_soundness.proofs.Patterns.{value_at}
use Rattle.qc_soundness.proofs.RootGoal.{effect_is_good}
use Rattle.qc_soundness.proofs.RootRuns.{Does, SomeNone, ToNone}
use Rattle.qc_soundness.proofs.Scene.{IsScene, Scene, at_front}
use Rattle.qc_tiles.specs.Law.Terms.{tree_of-term_of}
use Rattle.qc_soundness.proofs.TileRuns.{begun, first_lines, last_line, template_of, one_effect_holds}
use Rattle.qc_terms.specs.Value.{value_of}
use Rattle.qc_soundness.proofs.CallHolds.{IsCallTile, call_runs}
use Rattle.qc_terms.specs.declared.term.Dest.TheVariants as dest
use Rattle.qc_tiles.specs.declared.shape.Shape.TheVariants as shape
use Rattle.qc_terms.specs.declared.term.Place.TheVariants as place

-- ---- the tile of a call

tile_shapes : (f : TileFacts) (s : Shape) → (length (effects_of f s) ≡ 1) ⊎ (effects_of f s ≡ effects_of f shape.Call)
tile_shapes f shape.Call = inr refl
tile_shapes f shape.Move = inl (omega arith)
tile_shapes f shape.Const = inl (omega arith)
tile_shapes f (shape.Unary op) = inl (omega arith)
tile_shapes f (shape.Binary op) = inl (omega arith)
tile_shapes f (shape.Test op) = inl (omega arith)
tile_shapes f (shape.Branch op) = inl (omega arith)
tile_shapes f (shape.LoadPart bits) = inl (omega arith)
tile_shapes f shape.LoadWord = inl (omega arith)
tile_shapes f (shape.StorePart bits) = inl (omega arith)
tile_shapes f shape.StoreWord = inl (omega arith)
tile_shapes f shape.Goto = inl (omega arith)
tile_shapes f shape.Ret = inl (omega arith)
tile_shapes f shape.SaveLink = inl (omega arith)
tile_shapes f shape.LoadLink = inl (omega arith)
tile_shapes f shape.Spill = inl (omega arith)
tile_shapes f shape.Reload = inl (omega arith)
tile_shapes f shape.Frame = inl (omega arith)
tile_shapes f shape.In = inl (omega arith)
tile_shapes f shape.Out = inl (omega arith)
tile_shapes f shape.Halt = inl (omega arith)
tile_shapes f shape.Trap = inl (omega arith)

abbrev HasShape : TileFacts → Tile → Type 0
HasShape f t = (length t.rtl.effects ≡ 1) ⊎ (t.rtl.effects ≡ effects_of f shape.Call)

all_have_shapes : (f : TileFacts) → All (HasShape f) (tiles_of f)
unfolding tiles_among
all_have_shapes f =
    All-map (HasShape f) (tile_of f) (filter (λ name. stands_at f.word (shape_of name)) all_names)
    (λ k d below. tile_shapes f (shape_of (get_or (filter (λ name. stands_at f.word (shape_of name)) all_names) k d)))

plain_writes : (to : Dest) (v : Tree) (operands : List ℕ) (after : ℕ) (s : State) (word : ℕ) (w : Write) → value_of v operands after s ≡ Some word → write_of to operands after s word ≡ Some w →
    writes_of_effect (gives to v) operands after s ≡ Some (w ∷ [])
unfolding writes_of_effect
plain_writes to v operands after s word w value write =
    ap (λ t. option_map (λ (x : Write). x ∷ []) (option_and_then (write_of to operands after s) (value_of t operands after s))) (tree_of-term_of v)
    ∙ ap (λ o. option_map (λ (x : Write). x ∷ []) (option_and_then (write_of to operands after s) o)) value
    ∙ ap (option_map (λ (x : Write). x ∷ [])) write

plain_valued : (c : Scene) (to : Dest) (v : Tree) (word : ℕ) → (ToNone c to → ⊥) → value_at v (at_front c) ≡ Some word → SomeNone c (gives to v) → ⊥
plain_valued c to v word none_to value (inl none) = none
plain_valued c to v word none_to value (inr (inl none)) = none_to none
plain_valued c to v word none_to value (inr (inr none)) =
    let no : None ≡ Some word = sym none ∙ ap (λ t. value_at t (at_front c)) (tree_of-term_of v) ∙ value in cc no

call_holds : Laws → (d : Description) (t : Tile) (bound : ℕ) (node : Node) (children : Forest) → IsValid d → IsSoundTile (context_of_description d) (facts_of d) t →
    t.rtl.effects ≡ effects_of (facts_of d) shape.Call → AreValid (task_of d t bound) (AsTile (assignments_of t.rtl) ∷ []) (Grow node children Empty) → TileHolds d t (template_of d t (Grow node children Empty))
call_holds laws d t bound node children valid sound is_call derived row e s setting wide running =
    let m : Machine = machine_of d in
    let x : Template = template_of d t (Grow node children Empty) in
    let own : Slot = own_slot (assignments_of t.rtl) in
    let c : Scene = record { d = d; t = t; row = row; e = e; count = x.scratches; lines = length x.instances; after = e.next (length x.instances - 1); start = s } in
    let first : List Line = first_lines c own node children in
    let length_is : length x.instances ≡ suc (length first) = length_after first (last_line c own node) in
    let scene : IsScene c = record {
      placed = record { valid = valid; setting = setting; state = wide };
      after = setting.words (length x.instances - 1) (omega (arith, length_is));
    } in
    let to_link : Dest = dest.Reg (place.Cell d.link.0 d.link.1) in
    let f : Effect = gives to_link (AddressAfter d.facts.word) in
    let k : Effect = gives dest.Pc (word_operand (facts_of d) 0) in
    let ready : IsReady s t.rtl e.operands = tile_is_ready d t x.scratches (length x.instances) row e s scene.placed sound in
    let each : (P : Effect → Type 0) → All P t.rtl.effects → AllByRecursion P (f ∷ k ∷ []) = λ P all. subst (AllByRecursion P) is_call (recursion_from_All P t.rtl.effects all) in
    let names = each (EffectNames d.facts.word (kinds_of_tile (facts_of d) t)) sound.names in
    let mine = each (EffectNamesOwn (facts_of d)) sound.cells in
    let typed = each (IsTypedEffect (context_of s)) ready.typed in
    let fits = each (EffectFits (context_of s) e.operands) ready.fits in
    let tile : IsCallTile c f k = record {
      call = record { space = d.link.0; index = d.link.1; word = c.after; target = slice_index e.operands 0 };
      link = record {
        good = effect_is_good c f scene typed.0 fits.0 names.0 mine.0;
        names = names.0;
        own = mine.0;
        quiet = gives_no_input to_link (AddressAfter d.facts.word) refl refl;
        valued = plain_valued c to_link (AddressAfter d.facts.word) c.after (λ none. none) refl;
        writes = plain_writes to_link (AddressAfter d.facts.word) e.operands c.after s c.after (ToCell d.link.0 d.link.1 c.after) refl refl;
      };
      counter = record {
        good = effect_is_good c k scene typed.1.0 fits.1.0 names.1.0 mine.1.0;
        names = names.1.0;
        own = mine.1.0;
        quiet = gives_no_input dest.Pc (word_operand (facts_of d) 0) refl refl;
        valued = plain_valued c dest.Pc (word_operand (facts_of d) 0) (slice_index e.operands 0) (λ none. none) refl;
        writes = plain_writes dest.Pc (word_operand (facts_of d) 0) e.operands c.after s (slice_index e.operands 0) (ToCounter (slice_index e.operands 0)) refl refl;
      };
      place = place.Cell d.link.0 d.link.1;
      link_to = refl;
      counter_to = refl;
    } in
    let goals_are : assignments_of t.rtl ≡ assignment_of f ∷ assignment_of k ∷ [] = ap (map assignment_of) is_call in
    let kept : KeepsRules (task_of d t bound) true (assignment_of f ∷ assignment_of k ∷ []) node derived.0 =
    subst (λ ys. KeepsRules (task_of d t bound) true ys node derived.0) goals_are (keeps_rules-of (task_of d t bound) true (assignments_of t.rtl) node derived.0 derived.1) in
    let own_is : own ≡ own_slot (assignment_of f ∷ assignment_of k ∷ []) = ap own_slot goals_are in
    let last_is : e.next (0 + length first) ≡ c.after = ap e.next (omega (arith, length_is)) in
    let does : Does c (outcome_of (record { effects = f ∷ k ∷ [] }) e.operands c.after s) (run_lines c 0 x.instances (begun c)) =
    subst (λ o. Does c (outcome_of (record { effects = f ∷ k ∷ [] }) e.operands c.after s) (run_lines c 0 (first_lines c o node children ++ (last_line c o node ∷ [])) (begun c))) (sym own_is)
    (call_runs laws c bound f k node children derived.0 scene tile running kept derived.2 (omega arith)
    (subst (λ o. e.next (0 + length (first_lines c o node children)) ≡ c.after) own_is last_is)) in (
      subst (λ es. DoesAs d x.scratches e (outcome_of (record { effects = es }) e.operands c.after s) (run_lines c 0 x.instances (begun c))) (sym is_call) does,
      (λ n below. subst (λ j. IsSome (run_of (take (suc n) (transfers_from d t e 0 x.instances)) (begun c)).state.ending ⊎ ((run_of (take (suc n) (transfers_from d t e 0 x.instances)) (begun c)).state.pc ≡ e.next j))
          (let same : 0 + n ≡ n = omega arith in same)
          (quiet_through d t e 0 first (last_line c own node) (begun c) n
          (forest_quiet laws d t bound children derived.0 (own_slots own node (node_slots m own 0 node)) (0 + node_scratches m node) derived.2 (needs_are_inner m node kept.pairs derived.0 kept.needs)) below)),
    )
  where
    length_after : (xs : List Line) (y : Line) → length (xs ++ (y ∷ [])) ≡ suc (length xs)
    length_after [] y = refl
    length_after (x ∷ xs) y = ap suc (length_after xs y)

-- the tile holds of the sequence of each valid derivation
pub all_hold : Laws → (d : Description) (t : Tile) (bounds : Bounds) (derivation : Derivation) → IsValid d → Contains (tiles_of (facts_of d)) t → IsValidDerivation d t bounds derivation →
    TileHolds d t (sequence_of d t derivation)
unfolding sequence_of
all_hold laws d t bounds derivation valid listed derived =
    elim (All-contains (HasShape (facts_of d)) (tiles_of (facts_of d)) t (all_have_shapes (facts_of d)) listed) [
      | inl one ↦ one_effect_holds laws d t bounds derivation valid listed one derived
      | inr call ↦
          let sound : IsSoundTile (context_of_description d) (facts_of d) t = All-contains (IsSoundTile (context_of_description d) (facts_of d)) (tiles_of (facts_of d)) t (description_tiles d valid) listed in
          let tree : forest_of derivation ≡ Grow (node_of derivation) (children_under derivation) Empty = grows_of-tree derivation Empty in
          subst (λ forest. TileHolds d t (template_of d t forest)) (sym tree)
          (call_holds laws d t bounds.laws (node_of derivation) (children_under derivation) valid sound call
          (subst (λ forest. AreValid (task_of d t bounds.laws) (AsTile (assignments_of t.rtl) ∷ []) forest) tree derived.nodes))
    ]
