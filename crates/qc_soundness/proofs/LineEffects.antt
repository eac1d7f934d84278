-- What a child's line writes: a value to the node's own cell, and anything to free cells.
use Rattle.std.proofs.Common.{◌≡◌, ◌≢◌, ◌∙◌, ◌⊎◌, ◌+◌, ◌≤◌, ◌<◌, ◌&&◌, ℕ, List, [], ◌∷◌, Bool, true, false, not, cond, Option, None, Some, nat_eq, slice_get, option_and_then, inl, inr, refl, sym, ap, subst, arith}
use Rattle.std.specs.Prelude.{slice_index}
use Rattle.std.specs.Option.{option_map}
use Rattle.std.proofs.lemmas.Bool.{cases_Bool}
use Rattle.std.proofs.lemmas.Option.{same_Some}
use Rattle.qc_words.specs.Operators.{result_of}
use Rattle.qc_terms.specs.declared.state.State.{State}
use Rattle.qc_terms.specs.declared.term.Dest.{Dest}
use Rattle.qc_terms.specs.declared.term.Dest.TheVariants as dest
use Rattle.qc_terms.specs.declared.term.Effect.{Effect}
use Rattle.qc_terms.specs.declared.term.Place.{Place}
use Rattle.qc_terms.specs.declared.term.Place.TheVariants as place
use Rattle.qc_terms.specs.declared.term.Term.{Term}
use Rattle.qc_terms.specs.Effects.{ToCell, Write, effect_has_input, write_of, writes_of_effect}
use Rattle.qc_terms.specs.State.{is_zero_cell}
use Rattle.qc_terms.specs.Tree.{Tree, Number, Unary, Binary, Register, Immediate, Load, NextInput, AddressAfter, has_input, tree_of, width_of}
use Rattle.qc_terms.specs.Value.{index_of, next_input_of, space_of, value_of}
use Rattle.qc_descr.specs.declared.description.OperandKind.TheVariants as kind
use Rattle.qc_descr.specs.Valid.{EffectNames, NamesDest, NamesPlace}
use Rattle.qc_tiles.specs.Sound.{has_load}
use Rattle.qc_code.specs.Setting.{slot_value}
use Rattle.qc_code.specs.TileHolds.{is_flag_space}
use Rattle.qc_derivations.specs.Forest.{Cell, Child, Constant, Own, Param, Spare, Stand}
use Rattle.qc_derivations.specs.Machine.{Assignment, Destination, Machine, ToPlace, assignment_of, destination_of, machine_of}
use Rattle.qc_derivations.specs.Machine as machine
use Rattle.qc_derivations.specs.Nodes.{target_of}
use Rattle.qc_derivations.specs.Rules.{guard_touches, is_free_destination, is_free_place, is_read, is_spare, is_written, operand_suits, touches_input_or_memory}
use Rattle.qc_derivations.specs.Sequence.{one_unless, scratches_at, slot_at, spare_cell, spare_cell_in, spare_slot}
use Rattle.qc_soundness.proofs.LeafValues.{NodeLine, Suits, line_high, line_operands, operand_is}
use Rattle.qc_soundness.proofs.Leaves.{flags_same}
use Rattle.qc_soundness.proofs.Optional.{and_both, numbers, or_either, or_neither}
use Rattle.qc_soundness.proofs.Patterns.{Reading}
use Rattle.qc_soundness.proofs.Scene.{IsScene, Scene}
use Rattle.qc_soundness.proofs.Single.{Harmless}
use Rattle.qc_soundness.proofs.Writes.{AreFree}

-- ---- free cells

-- The zero cell, a flag that is not the node's own cell, or a scratch of the node.
abbrev pub IsFreeCell : Scene → NodeLine → (own_space own_index space index : ℕ) → Type 0
IsFreeCell c l own_space own_index space index =
    (is_zero_cell c.d.facts.zero space index ≡ true)
    ⊎ (((is_flag_space c.d space ≡ true) × ((own_space ≢ space) ⊎ (own_index ≢ index)))
    ⊎ ((space ≡ c.d.allocatable) × (k : ℕ) × (l.scratch ≤ k) × (k < line_high c l) × (index ≡ c.e.scratch k)))

-- a term without loads has a value
pub has_value : (operands : List ℕ) (after : ℕ) (s : State) (t : Tree) → has_load t ≡ false → (v : ℕ) × (value_of t operands after s ≡ Some v)
has_value operands after s (Number value width) e = (value, refl)
has_value operands after s (Unary op arg) e =
    let deep = has_value operands after s arg e in
    (result_of op (width_of arg) deep.0 0, ap (option_map (λ a. result_of op (width_of arg) a 0)) deep.1)
has_value operands after s (Binary op left right) e =
    let parts = or_neither (has_load left) (has_load right) e in
    let l = has_value operands after s left parts.0 in
    let r = has_value operands after s right parts.1 in
    (result_of op (width_of left) l.0 r.0, rw (l.1, r.1) refl)
has_value operands after s (Register p width) e = let it = value_of (Register p width) operands after s in known it refl
  where
    known : (o : Option ℕ) → value_of (Register p width) operands after s ≡ o → (v : ℕ) × (value_of (Register p width) operands after s ≡ Some v)
    known None same = absurd (cc same)
    known (Some v) same = (v, same)
has_value operands after s (Immediate operand width) e = (slice_index operands operand, refl)
has_value operands after s (Load width address) e = absurd (cc e)
has_value operands after s (NextInput width) e = (next_input_of s, refl)
has_value operands after s (AddressAfter width) e = (after, refl)

not_touching : (t : Tree) → touches_input_or_memory t ≡ false → (has_load t ≡ false) × (has_input t ≡ false)
not_touching t e = or_neither (has_load t) (has_input t) e

from_not : (b : Bool) → not b ≡ true → b ≡ false
from_not true e = absurd (cc e)
from_not false e = refl

-- writes to free cells of one effect, which reads no input
pub record WritesFree (F : ℕ → ℕ → Type 0) (e : Effect) (r : Reading) : Type 0 where
  pub writes : List Write
  pub are : writes_of_effect e r.operands r.after r.state ≡ Some writes
  pub free : AreFree F writes
  pub quiet : effect_has_input e ≡ false

free_effect : (F : ℕ → ℕ → Type 0) (r : Reading) (guard : Option Term) (p : Place) (value : Term) → F (space_of p) (index_of p r.operands) →
    guard_touches (option_map tree_of guard) ≡ false → touches_input_or_memory (tree_of value) ≡ false →
    WritesFree F (record { guard = guard; to = dest.Reg p; value = value }) r
unfolding writes_of_effect effect_has_input
free_effect F r None p value free guards values =
    let none = not_touching (tree_of value) values in
    let has = has_value r.operands r.after r.state (tree_of value) none.0 in
    record {
      writes = ToCell (space_of p) (index_of p r.operands) has.0 ∷ [];
      are = ap (λ v. option_map (λ (w : Write). w ∷ []) (option_and_then (write_of (dest.Reg p) r.operands r.after r.state) v)) has.1;
      free = (free, tt);
      quiet = none.1;
    }
free_effect F r (Some guard) p value free guards values =
    let none = not_touching (tree_of value) values in
    let has = has_value r.operands r.after r.state (tree_of value) none.0 in
    let quiet = not_touching (tree_of guard) guards in
    let test = has_value r.operands r.after r.state (tree_of guard) quiet.0 in
    let one = ToCell (space_of p) (index_of p r.operands) has.0 ∷ [] in
    let of : (g : ℕ) → Option (List Write) = λ g. cond (nat_eq g 0) (Some []) (option_map (λ (w : Write). w ∷ []) (option_and_then (write_of (dest.Reg p) r.operands r.after r.state) (value_of (tree_of value) r.operands r.after r.state))) in
    let known : writes_of_effect (record { guard = Some guard; to = dest.Reg p; value = value }) r.operands r.after r.state ≡ cond (nat_eq test.0 0) (Some []) (Some one) =
    ap (option_and_then of) test.1
    ∙ ap (λ v. cond (nat_eq test.0 0) (Some []) (option_map (λ (w : Write). w ∷ []) (option_and_then (write_of (dest.Reg p) r.operands r.after r.state) v))) has.1 in
    elim (cases_Bool (nat_eq test.0 0)) [
      | inl zeros ↦ record {
        writes = [];
        are = known ∙ ap (λ b. cond b (Some []) (Some one)) zeros;
        free = tt;
        quiet = rw (quiet.1) (none.1);
      }
      | inr some ↦ record {
        writes = one;
        are = known ∙ ap (λ b. cond b (Some []) (Some one)) some;
        free = (free, tt);
        quiet = rw (quiet.1) (none.1);
      }
    ]

module _ (c : Scene) (is : IsScene c) (l : NodeLine) (suits : Suits c l) (s : State) (after : ℕ) (own_space own_index : ℕ) where
  -- a place that is free is a free cell
  free_place : (p : Place) → is_free_place (machine_of c.d) l.stands p ≡ true → ((space index : ℕ) → p ≡ place.Cell space index → is_flag_space c.d space ≡ true → (own_space ≢ space) ⊎ (own_index ≢ index)) →
      ((space number : ℕ) → p ≡ place.Operand space number → slice_get l.form.kinds number ≡ Some (kind.Register space)) →
      IsFreeCell c l own_space own_index (space_of p) (index_of p (line_operands c l))
  free_place (place.Cell space index) free apart names =
      elim (or_either (machine.has_flags (machine_of c.d) space) (is_zero_cell c.d.facts.zero space index) free) [
        | inl flags ↦
            let flag : is_flag_space c.d space ≡ true = sym (flags_same c.d space) ∙ flags in
            inr (inl (flag, apart space index refl flag))
        | inr zeros ↦ inl zeros
      ]
  free_place (place.Operand space number) free apart names =
      let known = names space number refl in
      let it = operand_is c l number (kind.Register space) suits known in
      go it.stand it.suits it.scratch it.low it.high it.value (ap is_spare (sym it.is) ∙ free)
    where
      spare : (it : Option ℕ) → spare_cell (machine_of c.d) ≡ it → (scratch : ℕ) → l.scratch ≤ scratch → scratch + one_unless it ≤ line_high c l → space ≡ c.d.allocatable →
          slice_index (line_operands c l) number ≡ slot_value c.t c.e (spare_slot it scratch) → IsFreeCell c l own_space own_index space (slice_index (line_operands c l) number)
      spare None same scratch low high here value = inr (inr (here, scratch, low, omega (arith, high), value))
      spare (Some index) same scratch low high here value =
          inl (subst (λ n. is_zero_cell c.d.facts.zero space n ≡ true) (sym value) (subst (λ n. is_zero_cell c.d.facts.zero n index ≡ true) (sym here) (at c.d.facts.zero same)))
        where
          inner : (z : ℕ × ℕ) (b : Bool) → nat_eq z.0 c.d.allocatable ≡ b → cond b (Some z.1) None ≡ Some index → (nat_eq z.0 c.d.allocatable && nat_eq z.1 index) ≡ true
          inner z true e there =
              let equal : z.1 ≡ index = same_Some z.1 index there in
              rw e (subst (λ n. nat_eq z.1 n ≡ true) equal (itself z.1))
            where
              itself : (n : ℕ) → nat_eq n n ≡ true
              itself n = grind arith
          inner z false e there = absurd (cc there)

          at : (z : Option (ℕ × ℕ)) → spare_cell_in c.d.allocatable z ≡ Some index → is_zero_cell z c.d.allocatable index ≡ true
          at None there = absurd (cc there)
          at (Some z) there = inner z (nat_eq z.0 c.d.allocatable) refl there

      go : (stand : Stand) → operand_suits (machine_of c.d) (target_of c.t) l.root l.form.assignments l.pairs number (kind.Register space) stand ≡ true → (scratch : ℕ) →
          l.scratch ≤ scratch → scratch + scratches_at (machine_of c.d) (is_written number l.form.assignments) stand ≤ line_high c l →
          slice_index (line_operands c l) number ≡ slot_value c.t c.e (slot_at (machine_of c.d) l.own (kind.Register space) (is_written number l.form.assignments) scratch stand) →
          is_spare (Some stand) ≡ true → IsFreeCell c l own_space own_index space (slice_index (line_operands c l) number)
      go Own fits scratch low high value free = absurd (cc free)
      go Child fits scratch low high value free = absurd (cc free)
      go (Param parameter) fits scratch low high value free = absurd (cc free)
      go (Cell other index) fits scratch low high value free = absurd (cc free)
      go (Constant term) fits scratch low high value free = absurd (cc free)
      go Spare fits scratch low high value free =
          spare (spare_cell (machine_of c.d)) refl scratch low high
          (numbers space c.d.allocatable (and_both (nat_eq space c.d.allocatable) (is_written number l.form.assignments && not (is_read number l.form.assignments)) fits).0) value

  -- a harmless effect writes free cells, and reads no input
  pub harmless_writes : (e : Effect) → EffectNames c.d.facts.word l.form.kinds e → Harmless (machine_of c.d) l.stands e →
      ((space index : ℕ) → e.to ≡ dest.Reg (place.Cell space index) → is_flag_space c.d space ≡ true → (own_space ≢ space) ⊎ (own_index ≢ index)) →
      WritesFree (IsFreeCell c l own_space own_index) e (record { operands = line_operands c l; after = after; state = s })
  harmless_writes e names harmless apart =
      let m : Machine = machine_of c.d in
      let a : Assignment = assignment_of e in
      let one = and_both (is_free_destination m l.stands a.to) (not (guard_touches a.guard) && not (touches_input_or_memory a.value)) harmless in
      let two = and_both (not (guard_touches a.guard)) (not (touches_input_or_memory a.value)) one.1 in
      go e.to refl one.0 (from_not (guard_touches a.guard) two.0) (from_not (touches_input_or_memory a.value) two.1)
    where
      go : (to : Dest) → e.to ≡ to → is_free_destination (machine_of c.d) l.stands (destination_of to) ≡ true → guard_touches (option_map tree_of e.guard) ≡ false →
          touches_input_or_memory (tree_of e.value) ≡ false →
          WritesFree (IsFreeCell c l own_space own_index) e (record { operands = line_operands c l; after = after; state = s })
      go (dest.Reg p) same free guards values =
          let r : Reading = record { operands = line_operands c l; after = after; state = s } in
          let cell = free_place p free
          (λ space index here. apart space index (same ∙ ap dest.Reg here))
          (λ space number here. subst (λ q. NamesPlace l.form.kinds q) here (subst (λ (to : Dest). NamesDest c.d.facts.word l.form.kinds to) same names.to)) in
          subst (λ (to : Dest). WritesFree (IsFreeCell c l own_space own_index) (record { guard = e.guard; to = to; value = e.value }) r) (sym same)
          (free_effect (IsFreeCell c l own_space own_index) r e.guard p e.value cell guards values)
      go (dest.Mem width address) same free guards values = absurd (cc free)
      go dest.Pc same free guards values = absurd (cc free)
      go dest.Out same free guards values = absurd (cc free)
      go dest.Halt same free guards values = absurd (cc free)
      go dest.Trap same free guards values = absurd (cc free)
