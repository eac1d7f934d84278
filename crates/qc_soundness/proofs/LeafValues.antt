-- A leaf of an instruction's term reads in a node's line what its part of the goal has at the front.
use Rattle.std.proofs.Common.{◌≡◌, ◌∙◌, ◌+◌, ◌≤◌, ◌%◌, ◌^◌, ◌&&◌, ◌||◌, ℕ, List, map, Bool, true, false, not, cond, Option, None, Some, nat_eq, nat_lt, slice_get, if◌then◌else◌, inl, inr, refl, sym, ap, subst, arith}
use Rattle.std.specs.Prelude.{slice_index}
use Rattle.std.proofs.lemmas.Bool.{cases_Bool}
use Rattle.std.proofs.lemmas.Option.{same_Some}
use Rattle.qc_words.specs.declared.operator.Op.{Op}
use Rattle.qc_words.specs.Operators.{result_of, result_width_of}
use Rattle.qc_terms.specs.declared.state.State.{State}
use Rattle.qc_terms.specs.declared.term.Place.{Place}
use Rattle.qc_terms.specs.declared.term.Place.TheVariants as place
use Rattle.qc_terms.specs.Cells.{cell_of}
use Rattle.qc_terms.specs.State.{is_zero_cell}
use Rattle.qc_terms.specs.Tree.{Tree, Number, Register, Immediate, width_of}
use Rattle.qc_terms.specs.Value.{index_of, read_of, space_of}
use Rattle.qc_descr.specs.declared.description.OperandKind.{OperandKind}
use Rattle.qc_descr.specs.declared.description.OperandKind.TheVariants as kind
use Rattle.qc_descr.specs.Valid.{NamesImmediate, NamesOperands}
use Rattle.qc_equations.specs.Matching.{is_constant}
use Rattle.qc_tiles.specs.Law.Terms.{tree_of-term_of}
use Rattle.qc_code.specs.declared.template.Slot.{Slot}
use Rattle.qc_code.specs.Setting.{constant_value, slot_value, target_number}
use Rattle.qc_derivations.specs.declared.derivation.Leaf.{Leaf}
use Rattle.qc_derivations.specs.declared.derivation.Leaf.TheVariants as leaf
use Rattle.qc_derivations.specs.Forest.{Cell, Child, Constant, Own, Param, Spare, Stand}
use Rattle.qc_derivations.specs.Machine.{Form, Machine, machine_of}
use Rattle.qc_derivations.specs.Machine as machine
use Rattle.qc_derivations.specs.Matching.{Pair}
use Rattle.qc_derivations.specs.Nodes.{target_of}
use Rattle.qc_derivations.specs.Rules.{extended_meets, flag_pair, immediate_meets, is_computed, is_extended, is_extension, is_flag_of, is_met, is_read, is_read_as, is_same_leaf, is_same_part, is_some_number, is_written, leaf_meets, names_target, operand_meets, operand_suits, operands_suit, register_meets, register_part, value_in}
use Rattle.qc_derivations.specs.Same.{is_number, is_register, same_tree}
use Rattle.qc_derivations.specs.Law.Same.{same_tree-same}
use Rattle.qc_derivations.specs.Sequence.{scratches_at, scratches_from, slot_at, slots_from}
use Rattle.qc_soundness.proofs.Leaves.{constant_has, is_immediate-same, is_register-same, same_places, slot_is, stand_at, value_in_line}
use Rattle.qc_soundness.proofs.Optional.{and_both, numbers, or_either}
use Rattle.qc_soundness.proofs.Patterns.{ReadsAs, is_number-same, leaf_tree, value_at}
use Rattle.qc_soundness.proofs.Scene.{IsGood, IsOuter, IsScene, Scene, at_front, place_is_outer, read_kept}
use Rattle.qc_soundness.proofs.Writes.{AreKept}

-- A node's line: its instruction, what stands for the operands, the pairs, the node's own slot, and the number of its first
-- scratch.
pub record NodeLine : Type 0 where
  pub root : Bool
  pub form : Form
  pub stands : List Stand
  pub pairs : List Pair
  pub own : Slot
  pub scratch : ℕ

abbrev pub line_slots : Scene → NodeLine → List Slot
line_slots c l = slots_from (machine_of c.d) l.form.assignments l.form.kinds l.own 0 l.scratch l.stands

abbrev pub line_operands : Scene → NodeLine → List ℕ
line_operands c l = map (slot_value c.t c.e) (line_slots c l)

abbrev pub line_high : Scene → NodeLine → ℕ
line_high c l = l.scratch + scratches_from (machine_of c.d) l.form.assignments 0 l.stands

-- something fitting stands for each operand
abbrev pub Suits : Scene → NodeLine → Type 0
Suits c l =
    operands_suit (operand_suits (machine_of c.d) (target_of c.t) l.root l.form.assignments l.pairs) l.stands 0 l.form.kinds ≡ true

-- What children have computed is in their cells.
pub record AreHeld (c : Scene) (l : NodeLine) (s : State) : Type 0 where
  pub registers : (number : ℕ) → slice_get l.stands number ≡ Some Child → (v : Tree) → register_part number l.pairs ≡ Some v →
      value_at v (at_front c) ≡ Some (read_of s c.d.allocatable (slice_index (line_operands c l) number))
  pub flag : (first : Pair) → flag_pair (machine_of c.d) l.pairs ≡ Some first → (space index width : ℕ) →
      first.leaf ≡ leaf.Register (place.Cell space index) width → value_at first.part (at_front c) ≡ Some (read_of s space index)

-- ---- operands

pub record IsOperand (c : Scene) (l : NodeLine) (number : ℕ) (k : OperandKind) : Type 0 where
  pub stand : Stand
  pub is : slice_get l.stands number ≡ Some stand
  pub suits : operand_suits (machine_of c.d) (target_of c.t) l.root l.form.assignments l.pairs number k stand ≡ true
  pub scratch : ℕ
  pub low : l.scratch ≤ scratch
  pub high : scratch + scratches_at (machine_of c.d) (is_written number l.form.assignments) stand ≤ line_high c l
  pub value : slice_index (line_operands c l) number
      ≡ slot_value c.t c.e (slot_at (machine_of c.d) l.own k (is_written number l.form.assignments) scratch stand)

pub operand_is : (c : Scene) (l : NodeLine) (number : ℕ) (k : OperandKind) → Suits c l → slice_get l.form.kinds number ≡ Some k → IsOperand c l number k
operand_is c l number k suits kinds =
    let m : Machine = machine_of c.d in
    let test = operand_suits m (target_of c.t) l.root l.form.assignments l.pairs in
    let plus : 0 + number ≡ number = omega arith in
    let it = stand_at test l.stands 0 l.form.kinds number k suits kinds in
    let there : slice_get l.stands number ≡ Some it.0 = ap (slice_get l.stands) (sym plus) ∙ it.1 in
    let slot = slot_is m l.form.assignments l.form.kinds l.own 0 l.scratch l.stands number k it.0 there (ap (slice_get l.form.kinds) plus ∙ kinds) in
    record {
      stand = it.0;
      is = there;
      suits = subst (λ n. test n k it.0 ≡ true) plus it.2;
      scratch = slot.scratch;
      low = slot.low_is;
      high = subst (λ n. slot.scratch + scratches_at m (is_written n l.form.assignments) it.0 ≤ line_high c l) plus slot.high_is;
      value = value_in_line (slot_value c.t c.e) (line_slots c l) number
          (slot_at m l.own k (is_written number l.form.assignments) slot.scratch it.0)
          (subst (λ n. slice_get (line_slots c l) number ≡ Some (slot_at m l.own k (is_written n l.form.assignments) slot.scratch it.0)) plus slot.is);
    }

-- ---- registers

-- a width and a value are those of a part of the goal
pub record IsPart (c : Scene) (width : ℕ) (value : Option ℕ) (part : Tree) : Type 0 where
  pub width_is : width ≡ width_of part
  pub value_is : value ≡ value_at part (at_front c)

cell_reads : (c : Scene) (s : State) (p : Place) (width : ℕ) → IsScene c → AreKept (IsOuter c) c.start s → IsGood c (Register p width) →
    IsPart c width (Some (read_of s (space_of p) (index_of p c.e.operands))) (Register p width)
cell_reads c s p width is kept good = record {
  width_is = refl;
  value_is = ap Some (read_kept (IsOuter c) c.start s (space_of p) (index_of p c.e.operands) kept (place_is_outer c p width is good));
}

-- a cell by its number reads as the part that it meets
read_as : (c : Scene) (s : State) (space index width : ℕ) (part : Tree) → IsScene c → AreKept (IsOuter c) c.start s → IsGood c part →
    is_read_as (machine_of c.d) space index width part ≡ true → IsPart c width (Some (read_of s space index)) part
read_as c s space index width part is kept good reads =
    elim (or_either (is_register (place.Cell space index) width part) (is_zero_cell c.d.facts.zero space index && is_number 0 width part) reads) [
      | inl same ↦
          let e : part ≡ Register (place.Cell space index) width = is_register-same (place.Cell space index) width part same in
          subst (IsPart c width (Some (read_of s space index))) (sym e)
          (cell_reads c s (place.Cell space index) width is kept (subst (IsGood c) e good))
      | inr zeros ↦
          let parts = and_both (is_zero_cell c.d.facts.zero space index) (is_number 0 width part) zeros in
          let e : part ≡ Number 0 width = is_number-same 0 width part parts.1 in
          let facts : is_zero_cell s.facts.zero space index ≡ true =
          ap (λ f. is_zero_cell f.«zero» space index) (kept.facts ∙ is.placed.state.facts) ∙ parts.0 in
          subst (IsPart c width (Some (read_of s space index))) (sym e)
          (record { width_is = refl; value_is = ap (λ b. Some (cond b 0 (cell_of s.cells space index))) facts })
    ]

-- a part that a child computes is what the first part of its operand is
computed : (c : Scene) (width : ℕ) (value : Option ℕ) (first : Option Tree) (part : Tree) → is_computed first width part ≡ true →
    ((v : Tree) → first ≡ Some v → value_at v (at_front c) ≡ value) → IsPart c width value part
computed c width value first part is has =
    let parts = and_both (nat_eq width (width_of part)) (is_same_part part first) is in
    record { width_is = numbers width (width_of part) parts.0; value_is = go first refl parts.1 }
  where
    go : (it : Option Tree) → first ≡ it → is_same_part part it ≡ true → value ≡ value_at part (at_front c)
    go None same e = absurd (cc e)
    go (Some v) same e = sym (has v same) ∙ ap (λ t. value_at t (at_front c)) (sym (same_tree-same part v e))

module _ (c : Scene) (is : IsScene c) (l : NodeLine) (suits : Suits c l) (s : State) (kept : AreKept (IsOuter c) c.start s) (held : AreHeld c l s) where
  -- the register of an operand
  operand_reads : (space number width : ℕ) (part : Tree) → slice_get l.form.kinds number ≡ Some (kind.Register space) → IsGood c part →
      operand_meets (machine_of c.d) l.pairs space number width part (slice_get l.stands number) ≡ true →
      IsPart c width (Some (read_of s space (slice_index (line_operands c l) number))) part
  operand_reads space number width part kinds good meets =
      let it = operand_is c l number (kind.Register space) suits kinds in
      go it.stand it.is it.suits it.scratch it.value (ap (operand_meets (machine_of c.d) l.pairs space number width part) (sym it.is) ∙ meets)
    where
      go : (stand : Stand) → slice_get l.stands number ≡ Some stand →
          operand_suits (machine_of c.d) (target_of c.t) l.root l.form.assignments l.pairs number (kind.Register space) stand ≡ true → (scratch : ℕ) →
          slice_index (line_operands c l) number
          ≡ slot_value c.t c.e (slot_at (machine_of c.d) l.own (kind.Register space) (is_written number l.form.assignments) scratch stand) →
          operand_meets (machine_of c.d) l.pairs space number width part (Some stand) ≡ true →
          IsPart c width (Some (read_of s space (slice_index (line_operands c l) number))) part
      go Own stands fits scratch value meets = absurd (cc meets)
      go Spare stands fits scratch value meets = absurd (cc meets)
      go (Constant term) stands fits scratch value meets = absurd (cc meets)
      go (Param parameter) stands fits scratch value meets =
          let e : part ≡ Register (place.Operand space parameter) width = is_register-same (place.Operand space parameter) width part meets in
          subst (λ n. IsPart c width (Some (read_of s space n)) part) (sym value)
          (subst (IsPart c width (Some (read_of s space (slice_index c.e.operands parameter)))) (sym e)
          (cell_reads c s (place.Operand space parameter) width is kept (subst (IsGood c) e good)))
      go (Cell other index) stands fits scratch value meets =
          let parts = and_both (not (is_written number l.form.assignments)) (nat_eq space other && nat_lt index (slice_index (machine_of c.d).counts space)) fits in
          let same : space ≡ other = numbers space other (and_both (nat_eq space other) (nat_lt index (slice_index (machine_of c.d).counts space)) parts.1).0 in
          subst (λ n. IsPart c width (Some (read_of s space n)) part) (sym value)
          (subst (λ n. IsPart c width (Some (read_of s n index)) part) (sym same) (read_as c s other index width part is kept good meets))
      go Child stands fits scratch value meets =
          let here : space ≡ c.d.allocatable =
          numbers space c.d.allocatable (and_both (nat_eq space c.d.allocatable)
          (is_met number l.pairs && (not (is_written number l.form.assignments) || (is_read number l.form.assignments && not l.root))) fits).0 in
          subst (λ n. IsPart c width (Some (read_of s n (slice_index (line_operands c l) number))) part) (sym here)
          (computed c width (Some (read_of s c.d.allocatable (slice_index (line_operands c l) number))) (register_part number l.pairs) part meets
          (held.registers number stands))

  flag_first : (space index width : ℕ) (part : Tree) (it : Option Pair) → flag_pair (machine_of c.d) l.pairs ≡ it →
      is_flag_of it (leaf.Register (place.Cell space index) width) width part ≡ true → IsPart c width (Some (read_of s space index)) part
  flag_first space index width part None same e = absurd (cc e)
  flag_first space index width part (Some first) same e =
      let parts = and_both (is_same_leaf first.leaf (leaf.Register (place.Cell space index) width)) (is_computed (Some first.part) width part) e in
      let is_it = go first.leaf parts.0 in
      computed c width (Some (read_of s space index)) (Some first.part) part parts.1
      (λ v equal. subst (λ t. value_at t (at_front c) ≡ Some (read_of s space index)) (same_Some first.part v equal)
      (held.flag first same space index is_it.0 is_it.1))
    where
      go : (x : Leaf) → is_same_leaf x (leaf.Register (place.Cell space index) width) ≡ true → (w : ℕ) × (x ≡ leaf.Register (place.Cell space index) w)
      go (leaf.Register p w) e = (w, ap (λ q. leaf.Register q w) (same_places p (place.Cell space index) e))
      go (leaf.Immediate operand w) e = absurd (cc e)
      go (leaf.Extended op operand w) e = absurd (cc e)

  -- the register of a place
  place_reads : (p : Place) (width : ℕ) (part : Tree) → NamesOperands c.d.facts.word l.form.kinds (Register p width) → IsGood c part →
      register_meets (machine_of c.d) l.stands l.pairs p width part ≡ true →
      IsPart c width (Some (read_of s (space_of p) (index_of p (line_operands c l)))) part
  place_reads (place.Operand space number) width part names good meets = operand_reads space number width part names good meets
  place_reads (place.Cell space index) width part names good meets =
      elim (cases_Bool (machine.has_flags (machine_of c.d) space)) [
        | inl flags ↦ flag_first space index width part (flag_pair (machine_of c.d) l.pairs) refl (rw flags at meets)
        | inr none ↦ read_as c s space index width part is kept good (rw none at meets)
      ]

  -- the literal of a constant
  constant_is : (operand : ℕ) (term : Tree) (k : OperandKind) → slice_get l.form.kinds operand ≡ Some k → slice_get l.stands operand ≡ Some (Constant term) →
      slice_index (line_operands c l) operand ≡ constant_value c.e.operands term
  constant_is operand term k kinds stands =
      let it = operand_is c l operand k suits kinds in
      let same : it.stand ≡ Constant term = same_Some it.stand (Constant term) (sym it.is ∙ stands) in
      it.value
      ∙ ap (λ x. slot_value c.t c.e (slot_at (machine_of c.d) l.own k (is_written operand l.form.assignments) it.scratch x)) same
      ∙ ap (constant_value c.e.operands) (tree_of-term_of term)

  -- an immediate
  immediate_reads : (operand width : ℕ) (part : Tree) → NamesImmediate c.d.facts.word l.form.kinds operand width →
      immediate_meets (target_of c.t) width part (slice_get l.stands operand) ≡ true →
      IsPart c width (Some (slice_index (line_operands c l) operand)) part
  immediate_reads operand width part names meets = elim names [
    | inl known ↦
        let it = operand_is c l operand (kind.Imm width) suits known in
        go it.stand it.is (kind.Imm width) known it.suits it.scratch it.value (ap (immediate_meets (target_of c.t) width part) (sym it.is) ∙ meets)
    | inr known ↦
        let it = operand_is c l operand kind.Addr suits known.0 in
        go it.stand it.is kind.Addr known.0 it.suits it.scratch it.value (ap (immediate_meets (target_of c.t) width part) (sym it.is) ∙ meets)
  ]
    where
      param : (k : OperandKind) (parameter scratch : ℕ) → (k ≡ kind.Addr) → is_some_number parameter (target_of c.t) ≡ true →
          slot_value c.t c.e (slot_at (machine_of c.d) l.own k (is_written operand l.form.assignments) scratch (Param parameter)) ≡ slice_index c.e.operands parameter
      param k parameter scratch is_address is_target =
          ap (λ x. slot_value c.t c.e (slot_at (machine_of c.d) l.own x (is_written operand l.form.assignments) scratch (Param parameter))) is_address
          ∙ ap (slice_index c.e.operands) (target c.t.target is_target)
        where
          target : (b : Bool) → is_some_number parameter (if b then Some (target_number c.t) else None) ≡ true → target_number c.t ≡ parameter
          target true e = sym (numbers parameter (target_number c.t) e)
          target false e = absurd (cc e)

      go : (stand : Stand) → slice_get l.stands operand ≡ Some stand → (k : OperandKind) → slice_get l.form.kinds operand ≡ Some k →
          operand_suits (machine_of c.d) (target_of c.t) l.root l.form.assignments l.pairs operand k stand ≡ true → (scratch : ℕ) →
          slice_index (line_operands c l) operand
          ≡ slot_value c.t c.e (slot_at (machine_of c.d) l.own k (is_written operand l.form.assignments) scratch stand) →
          immediate_meets (target_of c.t) width part (Some stand) ≡ true →
          IsPart c width (Some (slice_index (line_operands c l) operand)) part
      go Own stands k kinds fits scratch value meets = absurd (cc meets)
      go Spare stands k kinds fits scratch value meets = absurd (cc meets)
      go Child stands k kinds fits scratch value meets = absurd (cc meets)
      go (Cell other index) stands k kinds fits scratch value meets = absurd (cc meets)
      go (Param parameter) stands (kind.Register space) kinds fits scratch value meets =
          let e : part ≡ Immediate parameter width = is_immediate-same parameter width part meets in
          subst (λ n. IsPart c width (Some n) part) (sym value)
          (subst (IsPart c width (Some (slice_index c.e.operands parameter))) (sym e) (record { width_is = refl; value_is = refl }))
      go (Param parameter) stands (kind.Imm w) kinds fits scratch value meets = absurd (cc fits)
      go (Param parameter) stands kind.Addr kinds fits scratch value meets =
          let e : part ≡ Immediate parameter width = is_immediate-same parameter width part meets in
          subst (λ n. IsPart c width (Some n) part) (sym (value ∙ param kind.Addr parameter scratch refl fits))
          (subst (IsPart c width (Some (slice_index c.e.operands parameter))) (sym e) (record { width_is = refl; value_is = refl }))
      go (Constant term) stands k kinds fits scratch value meets =
          let one = and_both (is_constant part) (nat_eq width (width_of part) && (not (names_target (target_of c.t) part) && same_tree term part)) meets in
          let two = and_both (nat_eq width (width_of part)) (not (names_target (target_of c.t) part) && same_tree term part) one.1 in
          let three = and_both (not (names_target (target_of c.t) part)) (same_tree term part) two.1 in
          record {
            width_is = numbers width (width_of part) two.0;
            value_is = ap Some (constant_is operand term k kinds stands ∙ ap (constant_value c.e.operands) (same_tree-same term part three.1))
                ∙ sym (constant_has c.e.operands c.after c.start part one.0);
          }

  -- an immediate under an extension
  extended_reads : (op : Op) (operand width : ℕ) (part : Tree) → NamesImmediate c.d.facts.word l.form.kinds operand width →
      extended_meets op width part (slice_get l.stands operand) ≡ true →
      IsPart c (result_width_of op width) (Some (result_of op width (slice_index (line_operands c l) operand) 0)) part
  extended_reads op operand width part names meets = elim names [
    | inl known ↦ go (slice_get l.stands operand) refl (kind.Imm width) known meets
    | inr known ↦ go (slice_get l.stands operand) refl kind.Addr known.0 meets
  ]
    where
      number : (term : Tree) (it : Option ℕ) → is_extended op width term part it ≡ true →
          (value : ℕ) × (part ≡ Number (result_of op width (value % 2 ^ width) 0) (result_width_of op width)) × (term ≡ Number (value % 2 ^ width) width)
      number term None e = absurd (cc e)
      number term (Some value) e =
          let one = and_both (is_extension width op)
          (is_number (result_of op width (value % 2 ^ width) 0) (result_width_of op width) part && is_number (value % 2 ^ width) width term) e in
          let two = and_both (is_number (result_of op width (value % 2 ^ width) 0) (result_width_of op width) part) (is_number (value % 2 ^ width) width term) one.1 in
          (value, is_number-same (result_of op width (value % 2 ^ width) 0) (result_width_of op width) part two.0, is_number-same (value % 2 ^ width) width term two.1)

      go : (it : Option Stand) → slice_get l.stands operand ≡ it → (k : OperandKind) → slice_get l.form.kinds operand ≡ Some k →
          extended_meets op width part it ≡ true →
          IsPart c (result_width_of op width) (Some (result_of op width (slice_index (line_operands c l) operand) 0)) part
      go None stands k kinds meets = absurd (cc meets)
      go (Some Own) stands k kinds meets = absurd (cc meets)
      go (Some Spare) stands k kinds meets = absurd (cc meets)
      go (Some Child) stands k kinds meets = absurd (cc meets)
      go (Some (Cell other index)) stands k kinds meets = absurd (cc meets)
      go (Some (Param parameter)) stands k kinds meets = absurd (cc meets)
      go (Some (Constant term)) stands k kinds meets =
          let it = number term (value_in part) meets in
          let low : slice_index (line_operands c l) operand ≡ it.0 % 2 ^ width =
          constant_is operand term k kinds stands ∙ ap (constant_value c.e.operands) it.2 in
          subst (IsPart c (result_width_of op width) (Some (result_of op width (slice_index (line_operands c l) operand) 0))) (sym it.1)
          (record { width_is = refl; value_is = ap (λ n. Some (result_of op width n 0)) low })

  -- each leaf reads what it meets
  pub leaf_reads : (after : ℕ) (x : Leaf) (part : Tree) → NamesOperands c.d.facts.word l.form.kinds (leaf_tree x) → IsGood c part →
      leaf_meets (machine_of c.d) (target_of c.t) l.stands l.pairs x part ≡ true →
      ReadsAs (record { operands = line_operands c l; after = after; state = s }) (at_front c) (record { leaf = x; part = part })
  leaf_reads after (leaf.Register p width) part names good meets =
      let it = place_reads p width part names good meets in record { width = it.width_is; value = it.value_is }
  leaf_reads after (leaf.Immediate operand width) part names good meets =
      let it = immediate_reads operand width part names meets in record { width = it.width_is; value = it.value_is }
  leaf_reads after (leaf.Extended op operand width) part names good meets =
      let it = extended_reads op operand width part names meets in record { width = it.width_is; value = it.value_is }
