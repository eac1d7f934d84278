-- What holds of each tile of a machine, by what the tile does.
use Rattle.std.proofs.Common.{◌≡◌, ◌∙◌, ℕ, ◌-◌, ◌≤◌, ◌⊎◌, List, [], ◌∷◌, length, filter, slice_get, nat_lt, nat_eq, Bool, true, false, ◌||◌, IsTrue, Some, All, option_to_list, inl, inr, refl, sym, ap, subst, arith}
use Rattle.std.specs.List.{AllPairs, list_any}
use Rattle.std.proofs.lemmas.Bool.{cases_Bool}
use Rattle.std.proofs.lemmas.List.Elements.{All-cons, All-nil, All-map}
use Rattle.std.proofs.lemmas.List.Kept.{AllPairs-cons}
use Rattle.std.proofs.lemmas.List.Sums.{count_by-le-length}
use Rattle.std.proofs.lemmas.Nat.{pow_pos}
use Rattle.qc_words.specs.declared.operator.Op.{Op}
use Rattle.qc_words.specs.declared.operator.Op.TheVariants.{Add, And, Slice, Zx}
use Rattle.qc_words.specs.Operators.{Accepts, complement_of, is_unary, result_width_of}
use Rattle.qc_terms.specs.declared.term.Dest.{Dest}
use Rattle.qc_terms.specs.declared.term.Dest.TheVariants as dest
use Rattle.qc_terms.specs.declared.term.Effect.{Effect}
use Rattle.qc_terms.specs.declared.term.Place.TheVariants.{Cell, Operand}
use Rattle.qc_terms.specs.Effects.{dest_has_input, effect_has_input}
use Rattle.qc_terms.specs.State.{Context}
use Rattle.qc_terms.specs.Tree.{AddressAfter, Binary, Immediate, Load, NextInput, Number, Tree, Unary, has_input, tree_of, width_of}
use Rattle.qc_terms.specs.Typing.{HasOneEvent, IsAccess, IsAccessWidth, IsTyped, IsTypedEffect, is_event}
use Rattle.qc_descr.specs.declared.description.OperandKind.{OperandKind}
use Rattle.qc_descr.specs.declared.description.OperandKind.TheVariants as kind
use Rattle.qc_descr.specs.Valid.{EffectNames, NamesOperands}
use Rattle.qc_tiles.specs.declared.name.TileName.{TileName}
use Rattle.qc_tiles.specs.declared.name.TileName.TheVariants as name
use Rattle.qc_tiles.specs.declared.shape.Shape.{Shape}
use Rattle.qc_tiles.specs.declared.shape.Shape.TheVariants.{Move, Const, Test, Branch, LoadPart, LoadWord, StorePart, StoreWord, Goto, Call, Ret, SaveLink, LoadLink, Spill, Reload, Frame, In, Out, Halt, Trap}
use Rattle.qc_tiles.specs.declared.shape.Shape.TheVariants as shape
use Rattle.qc_tiles.specs.declared.tile.Tile.{Tile}
use Rattle.qc_tiles.specs.declared.tile.TileFacts.{TileFacts}
use Rattle.qc_tiles.specs.Facts.{AreTileFacts}
use Rattle.qc_tiles.specs.Names.{all_names, shape_of}
use Rattle.qc_tiles.specs.Sound.{EffectNamesOwn, GuardedHasValues, HasCells, HasValue, IsSoundTile, JumpsIfGuarded, NamesOwn, has_load, is_same_kind, kinds_of_tile, operand_kinds, touches_memory}
use Rattle.qc_tiles.specs.Terms.{term_of}
use Rattle.qc_tiles.specs.Tiles.{aligned, constant_of, effects_of, frame_cell, gives, has_target, link_cell, parameter, registers_of, sets, slot, stores, stands_at, tile_of, tile_with, tiles_among, tiles_of, word_operand}
use Rattle.qc_tiles.specs.Law.Effects as law
use Rattle.qc_tiles.specs.Law.Effects.{FitsDest, FitsEffect, FitsTree, branch_no_input, gives_no_input}
use Rattle.qc_tiles.specs.Law.Terms.{tree_of-term_of}

-- ---- lists of effects

-- the operators of tiles of these shapes, and what parts of a word are loaded and stored
abbrev pub HasOperator : ℕ → Shape → Type 0
HasOperator word (shape.Unary op) = (is_unary op ≡ true) × Accepts op word × (result_width_of op word ≡ word)
HasOperator word (shape.Binary op) = (is_unary op ≡ false) × Accepts op word × (result_width_of op word ≡ word)
HasOperator word (Test op) = (is_unary op ≡ false) × Accepts op word × (result_width_of op word ≡ 1)
HasOperator word (Branch op) = (is_unary op ≡ false) × Accepts op word × (result_width_of op word ≡ 1)
HasOperator word (LoadPart bits) = IsAccessWidth bits
HasOperator word (StorePart bits) = IsAccessWidth bits
HasOperator word _ = Unit {0}

pub names_have_operators : (word : ℕ) (n : TileName) → HasOperator word (shape_of n)
names_have_operators word name.Move = tt
names_have_operators word name.Const = tt
names_have_operators word name.Ldb = inl refl
names_have_operators word name.Ldh = inr (inl refl)
names_have_operators word name.Ldw = tt
names_have_operators word name.Stb = inl refl
names_have_operators word name.Sth = inr (inl refl)
names_have_operators word name.Stw = tt
names_have_operators word name.Goto = tt
names_have_operators word name.Call = tt
names_have_operators word name.Ret = tt
names_have_operators word name.Savelink = tt
names_have_operators word name.Loadlink = tt
names_have_operators word name.Spill = tt
names_have_operators word name.Reload = tt
names_have_operators word name.Frame = tt
names_have_operators word name.In = tt
names_have_operators word name.Out = tt
names_have_operators word name.Halt = tt
names_have_operators word name.Trap = tt
names_have_operators word name.Ldv = inr (inr (inl refl))
names_have_operators word name.Stv = inr (inr (inl refl))
names_have_operators word _ = (refl, tt, refl)

-- no input is read, or memory is not touched
abbrev ReadsApart : Tile → Effect → Type 0
ReadsApart t e = (effect_has_input e ≡ false) ⊎ (touches_memory t.rtl ≡ false)

no_input : (reads : Bool) → reads ≡ false → IsTrue (reads || false) → ⊥
no_input true quiet h = cc
no_input false quiet h = cc

neither_input : (one two : Bool) → one ≡ false → two ≡ false → IsTrue (one || (two || false)) → ⊥
neither_input true two quiet still h = cc
neither_input false two quiet still h = no_input two still h

-- a tile of one effect
one_sound : (context : Context) (f : TileFacts) (t : Tile) (e : Effect) → t.rtl.effects ≡ e ∷ [] → length (kinds_of_tile f t) ≤ 3 →
    FitsEffect context f (kinds_of_tile f t) e → ReadsApart t e → IsSoundTile context f t
one_sound context f t e is few fits apart =
    let single : (P : Effect → Type 0) → P e → All P t.rtl.effects =
    λ P holds. subst (All P) (sym is) (All-cons P e [] holds (All-nil P)) in
    record {
      typed = single (IsTypedEffect context) fits.typed;
      event = subst (λ es. HasOneEvent (record { effects = es })) (sym is) (count_by-le-length (λ x. is_event x.to) (e ∷ []));
      effects = omega (arith, ap length is);
      operands = few;
      names = single (EffectNames f.word (kinds_of_tile f t)) fits.names;
      guarded = single GuardedHasValues fits.guarded;
      jumps = single JumpsIfGuarded fits.jumps;
      kinds = subst (AllPairs (λ a b. is_same_kind a.to b.to ≡ false)) (sym is) (λ i j d less within. absurd (omega (arith, less, within)));
      cells = single (EffectNamesOwn f) fits.own;
      input = elim apart [
        | inl quiet ↦ λ reads. absurd (no_input (effect_has_input e) quiet (subst (λ es. IsTrue (list_any effect_has_input es)) is reads))
        | inr memory ↦ λ reads. memory
      ];
    }

module _ (context : Context) (f : TileFacts) (cells : HasCells context f) (facts : AreTileFacts f) where
  word_access : IsAccess context f.word f.word
  word_access = record {
    width = elim facts.word [ inl e ↦ inr (inl e) | inr (inl e) ↦ inr (inr (inl e)) | inr (inr e) ↦ inr (inr (inr e)) ];
    word = omega (arith, cells.word);
    address = sym cells.word;
  }

  part_access : (bits : ℕ) → IsAccessWidth bits → nat_lt bits f.word ≡ true → IsAccess context bits f.word
  part_access bits width less = record { width = width; word = grind (arith, cells.word, less); address = sym cells.word }

  -- the kinds of operands of a shape
  abbrev kinds_of_shape : Shape → List OperandKind
  kinds_of_shape s = operand_kinds f.frame.0 (registers_of s) (option_to_list (constant_of f s)) (has_target s)

  -- ---- operands of shapes

  constant_fits : (kinds : List OperandKind) (number : ℕ) → slice_get kinds number ≡ Some (kind.Imm f.word) →
      FitsTree context f kinds (word_operand f number)
  constant_fits kinds number is_constant = law.immediate_fits context f cells facts kinds number f.word (inl is_constant)

  target_fits : (kinds : List OperandKind) (number : ℕ) → slice_get kinds number ≡ Some kind.Addr →
      FitsTree context f kinds (word_operand f number)
  target_fits kinds number is_target = law.immediate_fits context f cells facts kinds number f.word (inr (is_target, refl))

  -- two register parameters, compared or computed with
  pair_fits : (kinds : List OperandKind) (op : Op) (i j : ℕ) → is_unary op ≡ false → Accepts op f.word →
      slice_get kinds i ≡ Some (kind.Register f.frame.0) → slice_get kinds j ≡ Some (kind.Register f.frame.0) →
      FitsTree context f kinds (Binary op (parameter f i) (parameter f j))
  pair_fits kinds op i j two accepts first second =
      law.binary_fits context f cells facts kinds op (parameter f i) (parameter f j) two accepts refl
      (law.parameter_fits context f cells facts kinds i first) (law.parameter_fits context f cells facts kinds j second)

  counter_takes : (kinds : List OperandKind) → FitsDest context f kinds dest.Pc f.word
  counter_takes kinds = record { takes = sym cells.word; names = tt; own = tt }

  -- a comparison of two register parameters leads to the target
  goes_fits : (kinds : List OperandKind) (op : Op) → HasOperator f.word (Branch op) → slice_get kinds 0 ≡ Some (kind.Register f.frame.0) →
      slice_get kinds 1 ≡ Some (kind.Register f.frame.0) → slice_get kinds 2 ≡ Some kind.Addr →
      FitsEffect context f kinds
      (record { guard = Some (term_of (Binary op (parameter f 0) (parameter f 1))); to = dest.Pc; value = term_of (word_operand f 2) })
  goes_fits kinds op operator first second target =
      let guard = Binary op (parameter f 0) (parameter f 1) in
      let tree : guard ≡ tree_of (term_of guard) = sym (tree_of-term_of guard) in
      let fits : FitsTree context f kinds guard =
      pair_fits kinds op 0 1 operator.0 operator.1 first second in
      let goes = law.gives_fits context f cells facts kinds dest.Pc (word_operand f 2) (target_fits kinds 2 target) (counter_takes kinds) in
      let there : tree_of (term_of (word_operand f 2)) ≡ word_operand f 2 = tree_of-term_of (word_operand f 2) in
      record {
        typed = record {
          guard = (subst (IsTyped context) tree fits.typed, ap width_of (sym tree) ∙ operator.2);
          value = goes.typed.value;
          to = goes.typed.to;
        };
        names = record { guard = subst (NamesOperands f.word kinds) tree fits.names; value = goes.names.value; to = tt };
        guarded = (subst HasValue tree (λ operands after s. refl), tt, subst HasValue (sym there) (λ operands after s. refl));
        jumps = refl;
        own = record { guard = subst (NamesOwn f) tree fits.own; value = goes.own.value; to = tt };
      }

  -- ---- shapes

  -- a tile of one effect without a guard that reads no input
  gives_sound : (n : TileName) (s : Shape) (to : Dest) (value : Tree) → effects_of f s ≡ gives to value ∷ [] →
      length (kinds_of_shape s) ≤ 3 → FitsDest context f (kinds_of_shape s) to (width_of value) → FitsTree context f (kinds_of_shape s) value →
      dest_has_input to ≡ false → has_input value ≡ false → IsSoundTile context f (tile_with f n s)
  gives_sound n s to value is few takes fits quiet still =
      one_sound context f (tile_with f n s) (gives to value) is few
      (law.gives_fits context f cells facts (kinds_of_shape s) to value fits takes) (inl (gives_no_input to value quiet still))

  -- a tile that sets its first register parameter
  sets_sound : (n : TileName) (s : Shape) (value : Tree) → effects_of f s ≡ sets f value → length (kinds_of_shape s) ≤ 3 →
      slice_get (kinds_of_shape s) 0 ≡ Some (kind.Register f.frame.0) → width_of value ≡ f.word → FitsTree context f (kinds_of_shape s) value →
      has_input value ≡ false → IsSoundTile context f (tile_with f n s)
  sets_sound n s value is few first same fits still =
      gives_sound n s (dest.Reg (Operand f.frame.0 0)) value is few
      (law.register_takes context f cells facts (kinds_of_shape s) 0 (width_of value) same first) fits refl still

  -- a tile that stores
  stores_sound : (n : TileName) (s : Shape) (bits : ℕ) (address value : Tree) → effects_of f s ≡ stores bits address value →
      length (kinds_of_shape s) ≤ 3 → IsAccess context bits (width_of address) → width_of value ≡ bits →
      FitsTree context f (kinds_of_shape s) address → FitsTree context f (kinds_of_shape s) value → has_input address ≡ false → has_input value ≡ false →
      IsSoundTile context f (tile_with f n s)
  stores_sound n s bits address value is few access same at fits quiet still =
      gives_sound n s (dest.Mem bits (term_of address)) value is few
      (law.memory_takes context f cells facts (kinds_of_shape s) bits (width_of value) address same access at) fits
      (ap has_input (tree_of-term_of address) ∙ quiet) still

  -- a tile that gives a word of its first register parameter to a destination that is no place
  word_sound : (n : TileName) (s : Shape) (to : Dest) → effects_of f s ≡ gives to (parameter f 0) ∷ [] → length (kinds_of_shape s) ≤ 3 →
      FitsDest context f (kinds_of_shape s) to f.word → slice_get (kinds_of_shape s) 0 ≡ Some (kind.Register f.frame.0) →
      dest_has_input to ≡ false → IsSoundTile context f (tile_with f n s)
  word_sound n s to is few takes first quiet =
      gives_sound n s to (parameter f 0) is few takes (law.parameter_fits context f cells facts (kinds_of_shape s) 0 first) quiet refl

  slot_quiet : (number : ℕ) → has_input (slot f number) ≡ false
  slot_quiet number = elim (cases_Bool (nat_eq f.slot_bits f.word)) [ inl same ↦ rw same refl | inr other ↦ rw other refl ]

  aligned_fits : (kinds : List OperandKind) → FitsTree context f kinds (aligned f (link_cell f))
  aligned_fits kinds =
      law.binary_fits context f cells facts kinds And (link_cell f) (Number (complement_of f.word (f.align - 1)) f.word) refl tt refl
      (law.link_fits context f cells facts kinds) (record { typed = omega (arith, pow_pos f.word); names = tt; own = tt })

  call_sound : (n : TileName) → IsSoundTile context f (tile_with f n Call)
  call_sound n =
      let kinds = kinds_of_shape Call in
      let saves = gives (dest.Reg (Cell f.link.0 f.link.1)) (AddressAfter f.word) in
      let goes = gives dest.Pc (word_operand f 0) in
      let first : FitsEffect context f kinds saves =
      law.gives_fits context f cells facts kinds (dest.Reg (Cell f.link.0 f.link.1)) (AddressAfter f.word)
      (record { typed = sym cells.word; names = tt; own = tt }) (law.link_takes context f cells facts kinds) in
      let second : FitsEffect context f kinds goes =
      law.gives_fits context f cells facts kinds dest.Pc (word_operand f 0) (target_fits kinds 0 refl) (counter_takes kinds) in
      let both : (P : Effect → Type 0) → P saves → P goes → All P (saves ∷ goes ∷ []) =
      λ P one two. All-cons P saves (goes ∷ []) one (All-cons P goes [] two (All-nil P)) in
      record {
        typed = both (IsTypedEffect context) first.typed second.typed;
        event = omega arith;
        effects = omega arith;
        operands = omega arith;
        names = both (EffectNames f.word kinds) first.names second.names;
        guarded = both GuardedHasValues first.guarded second.guarded;
        jumps = both JumpsIfGuarded first.jumps second.jumps;
        kinds = AllPairs-cons (λ a b. is_same_kind a.to b.to ≡ false) saves (goes ∷ [])
            (All-cons (λ b. is_same_kind saves.to b.to ≡ false) goes [] refl (All-nil (λ b. is_same_kind saves.to b.to ≡ false)))
            (λ i j d less within. absurd (omega (arith, less, within)));
        cells = both (EffectNamesOwn f) first.own second.own;
        input = λ reads. absurd (neither_input (effect_has_input saves) (effect_has_input goes)
            (gives_no_input (dest.Reg (Cell f.link.0 f.link.1)) (AddressAfter f.word) refl refl)
            (gives_no_input dest.Pc (word_operand f 0) refl refl) reads);
      }

  -- a tile that does what a shape says
  shape_sound : (n : TileName) (s : Shape) → HasOperator f.word s → stands_at f.word s ≡ true → IsSoundTile context f (tile_with f n s)
  shape_sound n Move operator stands =
      sets_sound n Move (parameter f 1) refl (omega arith) refl refl (law.parameter_fits context f cells facts (kinds_of_shape Move) 1 refl) refl
  shape_sound n Const operator stands =
      sets_sound n Const (word_operand f 1) refl (omega arith) refl refl (constant_fits (kinds_of_shape Const) 1 refl) refl
  shape_sound n (shape.Unary op) operator stands =
      let kinds = kinds_of_shape (shape.Unary op) in
      sets_sound n (shape.Unary op) (Unary op (parameter f 1)) refl (omega arith) refl operator.2
      (law.unary_fits context f cells facts kinds op (parameter f 1) operator.0 operator.1 (law.parameter_fits context f cells facts kinds 1 refl)) refl
  shape_sound n (shape.Binary op) operator stands =
      let kinds = kinds_of_shape (shape.Binary op) in
      sets_sound n (shape.Binary op) (Binary op (parameter f 1) (parameter f 2)) refl (omega arith) refl operator.2
      (pair_fits kinds op 1 2 operator.0 operator.1 refl refl) refl
  shape_sound n (Test op) operator stands =
      let kinds = kinds_of_shape (Test op) in
      let test = Binary op (parameter f 1) (parameter f 2) in
      sets_sound n (Test op) (Unary (Zx f.word) test) refl (omega arith) refl refl
      (law.unary_fits context f cells facts kinds (Zx f.word) test refl (omega (arith, operator.2, facts.slot_least, facts.slot_most))
      (pair_fits kinds op 1 2 operator.0 operator.1 refl refl)) refl
  shape_sound n (Branch op) operator stands =
      let guard = Binary op (parameter f 0) (parameter f 1) in
      let e : Effect = record { guard = Some (term_of guard); to = dest.Pc; value = term_of (word_operand f 2) } in
      one_sound context f (tile_with f n (Branch op)) e refl (omega arith) (goes_fits (kinds_of_shape (Branch op)) op operator refl refl refl)
      (inl (branch_no_input guard (word_operand f 2) refl refl))
  shape_sound n (LoadPart bits) operator stands =
      let kinds = kinds_of_shape (LoadPart bits) in
      let part = Load bits (parameter f 1) in
      sets_sound n (LoadPart bits) (Unary (Zx f.word) part) refl (omega arith) refl refl
      (law.unary_fits context f cells facts kinds (Zx f.word) part refl (grind (arith, stands))
      (law.load_fits context f cells facts kinds bits (parameter f 1) (part_access bits operator stands)
      (law.parameter_fits context f cells facts kinds 1 refl))) refl
  shape_sound n LoadWord operator stands =
      let kinds = kinds_of_shape LoadWord in
      sets_sound n LoadWord (Load f.word (parameter f 1)) refl (omega arith) refl refl
      (law.load_fits context f cells facts kinds f.word (parameter f 1) word_access (law.parameter_fits context f cells facts kinds 1 refl)) refl
  shape_sound n (StorePart bits) operator stands =
      let kinds = kinds_of_shape (StorePart bits) in
      stores_sound n (StorePart bits) bits (parameter f 0) (Unary (Slice 0 bits) (parameter f 1)) refl (omega arith)
      (part_access bits operator stands) refl (law.parameter_fits context f cells facts kinds 0 refl)
      (law.unary_fits context f cells facts kinds (Slice 0 bits) (parameter f 1) refl (grind (arith, stands))
      (law.parameter_fits context f cells facts kinds 1 refl)) refl refl
  shape_sound n StoreWord operator stands =
      let kinds = kinds_of_shape StoreWord in
      stores_sound n StoreWord f.word (parameter f 0) (parameter f 1) refl (omega arith) word_access refl
      (law.parameter_fits context f cells facts kinds 0 refl) (law.parameter_fits context f cells facts kinds 1 refl) refl refl
  shape_sound n Goto operator stands =
      gives_sound n Goto dest.Pc (word_operand f 0) refl (omega arith) (counter_takes (kinds_of_shape Goto))
      (target_fits (kinds_of_shape Goto) 0 refl) refl refl
  shape_sound n Call operator stands = call_sound n
  shape_sound n Ret operator stands =
      gives_sound n Ret dest.Pc (aligned f (link_cell f)) refl (omega arith) (counter_takes (kinds_of_shape Ret))
      (aligned_fits (kinds_of_shape Ret)) refl refl
  shape_sound n SaveLink operator stands =
      let kinds = kinds_of_shape SaveLink in
      stores_sound n SaveLink f.word (slot f 0) (link_cell f) refl (omega arith) word_access refl
      (law.slot_fits context f cells facts kinds 0 refl) (law.link_fits context f cells facts kinds) (slot_quiet 0) refl
  shape_sound n LoadLink operator stands =
      let kinds = kinds_of_shape LoadLink in
      gives_sound n LoadLink (dest.Reg (Cell f.link.0 f.link.1)) (Load f.word (slot f 0)) refl (omega arith)
      (law.link_takes context f cells facts kinds)
      (law.load_fits context f cells facts kinds f.word (slot f 0) word_access (law.slot_fits context f cells facts kinds 0 refl))
      refl (slot_quiet 0)
  shape_sound n Spill operator stands =
      let kinds = kinds_of_shape Spill in
      stores_sound n Spill f.word (slot f 1) (parameter f 0) refl (omega arith) word_access refl
      (law.slot_fits context f cells facts kinds 1 refl) (law.parameter_fits context f cells facts kinds 0 refl) (slot_quiet 1) refl
  shape_sound n Reload operator stands =
      let kinds = kinds_of_shape Reload in
      sets_sound n Reload (Load f.word (slot f 1)) refl (omega arith) refl refl
      (law.load_fits context f cells facts kinds f.word (slot f 1) word_access (law.slot_fits context f cells facts kinds 1 refl)) (slot_quiet 1)
  shape_sound n Frame operator stands =
      let kinds = kinds_of_shape Frame in
      gives_sound n Frame (dest.Reg (Cell f.frame.0 f.frame.1)) (Binary Add (frame_cell f) (word_operand f 0)) refl (omega arith)
      (law.frame_takes context f cells facts kinds f.word refl)
      (law.binary_fits context f cells facts kinds Add (frame_cell f) (word_operand f 0) refl tt refl
      (law.frame_fits context f cells facts kinds) (constant_fits kinds 0 refl)) refl refl
  shape_sound n In operator stands =
      let kinds = kinds_of_shape In in
      one_sound context f (tile_with f n In) (gives (dest.Reg (Operand f.frame.0 0)) (NextInput f.word)) refl (omega arith)
      (law.gives_fits context f cells facts kinds (dest.Reg (Operand f.frame.0 0)) (NextInput f.word)
      (record { typed = sym cells.word; names = tt; own = tt }) (law.register_takes context f cells facts kinds 0 f.word refl refl))
      (inr (ap (λ t. (false || (false || has_load t)) || false) (tree_of-term_of (NextInput f.word))))
  shape_sound n Out operator stands = word_sound n Out dest.Out refl (omega arith) (record { takes = sym cells.word; names = tt; own = tt }) refl refl
  shape_sound n Halt operator stands = word_sound n Halt dest.Halt refl (omega arith) (record { takes = sym cells.word; names = tt; own = tt }) refl refl
  shape_sound n Trap operator stands =
      let kinds = kinds_of_shape Trap in
      gives_sound n Trap dest.Trap (Immediate 0 8) refl (omega arith) (record { takes = refl; names = tt; own = tt })
      (law.immediate_fits context f cells facts kinds 0 8 (inl refl)) refl refl

-- the elements that pass a test
all_kept : {X : Type 0} (P : X → Type 0) (p : X → Bool) → ((x : X) → p x ≡ true → P x) → (xs : List X) → All P (filter p xs)
all_kept P p holds [] = All-nil P
all_kept P p holds (x ∷ xs) = elim (cases_Bool (p x)) [
  | inl passes ↦ rw passes (All-cons P x (filter p xs) (holds x passes) (all_kept P p holds xs))
  | inr fails ↦ rw fails (all_kept P p holds xs)
]

-- what holds of each tile of a machine that has the frame and the link among its cells
pub tiles_sound : (context : Context) (f : TileFacts) → HasCells context f → AreTileFacts f → All (IsSoundTile context f) (tiles_of f)
unfolding tiles_among
tiles_sound context f cells facts =
    let p : TileName → Bool = λ n. stands_at f.word (shape_of n) in
    All-map (IsSoundTile context f) (tile_of f) (filter p all_names)
    (all_kept (λ n. IsSoundTile context f (tile_of f n)) p
    (λ n stands. shape_sound context f cells facts n (shape_of n) (names_have_operators f.word n) stands) all_names)
