-- What holds of the terms and effects that tiles are made of.
use Rattle.std.proofs.Common.{◌≡◌, ◌∙◌, ℕ, ◌<◌, List, length, slice_get, slice_index, nat_eq, true, false, Some, inl, inr, refl, sym, ap, subst, arith}
use Rattle.std.proofs.lemmas.Bool.{cases_Bool}
use Rattle.qc_words.specs.declared.operator.Op.{Op}
use Rattle.qc_words.specs.declared.operator.Op.TheVariants.{Add, Sx}
use Rattle.qc_words.specs.Operators.{Accepts, is_unary}
use Rattle.qc_terms.specs.declared.term.Dest.{Dest}
use Rattle.qc_terms.specs.declared.term.Dest.TheVariants as dest
use Rattle.qc_terms.specs.declared.term.Effect.{Effect}
use Rattle.qc_terms.specs.declared.term.Place.TheVariants.{Cell, Operand}
use Rattle.qc_terms.specs.Effects.{dest_has_input, effect_has_input}
use Rattle.qc_terms.specs.State.{Context}
use Rattle.qc_terms.specs.Tree.{Binary, Immediate, Load, Tree, Unary, has_input, tree_of, width_of}
use Rattle.qc_terms.specs.Typing.{IsAccess, IsTyped, IsTypedEffect, TakesWidth}
use Rattle.qc_descr.specs.declared.description.OperandKind.{OperandKind}
use Rattle.qc_descr.specs.declared.description.OperandKind.TheVariants as kind
use Rattle.qc_descr.specs.Valid.{EffectNames, NamesDest, NamesImmediate, NamesOperands}
use Rattle.qc_tiles.specs.declared.tile.TileFacts.{TileFacts}
use Rattle.qc_tiles.specs.Facts.{AreTileFacts}
use Rattle.qc_tiles.specs.Sound.{DestNamesOwn, EffectNamesOwn, GuardedHasValues, HasCells, JumpsIfGuarded, NamesOwn}
use Rattle.qc_tiles.specs.Terms.{term_of}
use Rattle.qc_tiles.specs.Tiles.{frame_cell, gives, link_cell, offset, parameter, slot}
use Rattle.qc_tiles.specs.Law.Terms.{tree_of-term_of}

-- a term of a tile whose operands are of these kinds
pub record FitsTree (context : Context) (f : TileFacts) (kinds : List OperandKind) (t : Tree) : Type 0 where
  pub typed : IsTyped context t
  pub names : NamesOperands f.word kinds t
  pub own : NamesOwn f t

-- a destination for words of this width
pub record FitsDest (context : Context) (f : TileFacts) (kinds : List OperandKind) (to : Dest) (width : ℕ) : Type 0 where
  pub takes : TakesWidth context to width
  pub names : NamesDest f.word kinds to
  pub own : DestNamesOwn f to

pub record FitsEffect (context : Context) (f : TileFacts) (kinds : List OperandKind) (e : Effect) : Type 0 where
  pub typed : IsTypedEffect context e
  pub names : EffectNames f.word kinds e
  pub guarded : GuardedHasValues e
  pub jumps : JumpsIfGuarded e
  pub own : EffectNamesOwn f e

module _ (context : Context) (f : TileFacts) (cells : HasCells context f) (facts : AreTileFacts f) (kinds : List OperandKind) where
  -- ---- terms

  pub parameter_fits : (number : ℕ) → slice_get kinds number ≡ Some (kind.Register f.frame.0) → FitsTree context f kinds (parameter f number)
  parameter_fits number is_register = record { typed = (cells.space, sym cells.width); names = is_register; own = tt }

  pub frame_fits : FitsTree context f kinds (frame_cell f)
  frame_fits = record { typed = (cells.space, sym cells.width, cells.frame); names = tt; own = inl (refl, refl) }

  pub link_fits : FitsTree context f kinds (link_cell f)
  link_fits = record {
    typed = (
      subst (λ s. s < length context.widths) (sym facts.same_space) cells.space,
      sym (ap (slice_index context.widths) facts.same_space ∙ cells.width),
      cells.link,
    );
    names = tt;
    own = inr (refl, refl);
  }

  pub immediate_fits : (number width : ℕ) → NamesImmediate f.word kinds number width → FitsTree context f kinds (Immediate number width)
  immediate_fits number width is_immediate = record { typed = tt; names = is_immediate; own = tt }

  pub unary_fits : (op : Op) (arg : Tree) → is_unary op ≡ true → Accepts op (width_of arg) → FitsTree context f kinds arg →
      FitsTree context f kinds (Unary op arg)
  unary_fits op arg one accepts fits = record { typed = (one, accepts, fits.typed); names = fits.names; own = fits.own }

  pub binary_fits : (op : Op) (left right : Tree) → is_unary op ≡ false → Accepts op (width_of left) → width_of left ≡ width_of right →
      FitsTree context f kinds left → FitsTree context f kinds right → FitsTree context f kinds (Binary op left right)
  binary_fits op left right two accepts same l r = record {
    typed = (two, accepts, same, l.typed, r.typed);
    names = (l.names, r.names);
    own = (l.own, r.own);
  }

  pub load_fits : (width : ℕ) (address : Tree) → IsAccess context width (width_of address) → FitsTree context f kinds address →
      FitsTree context f kinds (Load width address)
  load_fits width address access fits = record { typed = (access, fits.typed); names = fits.names; own = fits.own }

  offset_fits : (number : ℕ) → slice_get kinds number ≡ Some (kind.Imm f.slot_bits) →
      FitsTree context f kinds (offset f number) × (f.word ≡ width_of (offset f number))
  offset_fits number is_offset = elim (cases_Bool (nat_eq f.slot_bits f.word)) [
    | inl same ↦
        let e : f.slot_bits ≡ f.word = grind (arith, same) in
        rw same (immediate_fits number f.word (inl (is_offset ∙ ap (λ w. Some (kind.Imm w)) e)), refl)
    | inr other ↦
        rw other (
          unary_fits (Sx f.word) (Immediate number f.slot_bits) refl facts.slot_most
              (immediate_fits number f.slot_bits (inl is_offset)),
          refl,
        )
  ]

  pub slot_fits : (number : ℕ) → slice_get kinds number ≡ Some (kind.Imm f.slot_bits) → FitsTree context f kinds (slot f number)
  slot_fits number is_offset =
      let there = offset_fits number is_offset in
      binary_fits Add (frame_cell f) (offset f number) refl tt there.1 frame_fits there.0

  -- ---- destinations

  pub register_takes : (number width : ℕ) → width ≡ f.word → slice_get kinds number ≡ Some (kind.Register f.frame.0) →
      FitsDest context f kinds (dest.Reg (Operand f.frame.0 number)) width
  register_takes number width same is_register = record {
    takes = (cells.space, same ∙ sym cells.width);
    names = is_register;
    own = tt;
  }

  pub frame_takes : (width : ℕ) → width ≡ f.word → FitsDest context f kinds (dest.Reg (Cell f.frame.0 f.frame.1)) width
  frame_takes width same = record {
    takes = (cells.space, same ∙ sym cells.width, cells.frame);
    names = tt;
    own = inl (refl, refl);
  }

  pub link_takes : FitsDest context f kinds (dest.Reg (Cell f.link.0 f.link.1)) f.word
  link_takes = record { takes = link_fits.typed; names = tt; own = inr (refl, refl) }

  pub memory_takes : (bits width : ℕ) (address : Tree) → width ≡ bits → IsAccess context bits (width_of address) →
      FitsTree context f kinds address → FitsDest context f kinds (dest.Mem bits (term_of address)) width
  memory_takes bits width address same access fits =
      let tree : address ≡ tree_of (term_of address) = sym (tree_of-term_of address) in
      record {
        takes = (same, subst (λ t. IsAccess context bits (width_of t)) tree access, subst (IsTyped context) tree fits.typed);
        names = subst (NamesOperands f.word kinds) tree fits.names;
        own = subst (NamesOwn f) tree fits.own;
      }

  -- ---- effects

  pub gives_fits : (to : Dest) (value : Tree) → FitsTree context f kinds value → FitsDest context f kinds to (width_of value) →
      FitsEffect context f kinds (gives to value)
  gives_fits to value fits takes =
      let tree : value ≡ tree_of (term_of value) = sym (tree_of-term_of value) in
      record {
        typed = record {
          guard = tt;
          value = subst (IsTyped context) tree fits.typed;
          to = subst (λ t. TakesWidth context to (width_of t)) tree takes.takes;
        };
        names = record { guard = tt; value = subst (NamesOperands f.word kinds) tree fits.names; to = takes.names };
        guarded = tt;
        jumps = tt;
        own = record { guard = tt; value = subst (NamesOwn f) tree fits.own; to = takes.own };
      }

-- an effect that reads no input
pub gives_no_input : (to : Dest) (value : Tree) → dest_has_input to ≡ false → has_input value ≡ false → effect_has_input (gives to value) ≡ false
unfolding effect_has_input
gives_no_input to value no_address no_value =
    rw no_address (ap has_input (tree_of-term_of value) ∙ no_value)

-- a jump under a guard that reads no input
pub branch_no_input : (guard value : Tree) → has_input guard ≡ false → has_input value ≡ false →
    effect_has_input (record { guard = Some (term_of guard); to = dest.Pc; value = term_of value }) ≡ false
unfolding effect_has_input
branch_no_input guard value quiet still =
    rw (ap has_input (tree_of-term_of guard) ∙ quiet) (ap has_input (tree_of-term_of value) ∙ still)
