-- Addresses in the lines of a sequence: aligned as codings leave bits out, and relative in the last line of a branch alone.
use Rattle.std.proofs.Common.{◌≡◌, ◌∙◌, ◌+◌, ◌%◌, ◌^◌, ◌||◌, ◌&&◌, ℕ, suc, List, [], ◌∷◌, Bool, true, false, not, Some, nat_eq, slice_get, refl, sym, ap, subst, arith}
use Rattle.std.specs.List.{list_any}
use Rattle.std.proofs.lemmas.Bool.{and_from}
use Rattle.std.proofs.lemmas.Option.{slice_get-map}
use Rattle.qc_descr.specs.declared.coding.Coding.{Coding}
use Rattle.qc_descr.specs.declared.coding.Reach.{Reach}
use Rattle.qc_descr.specs.declared.coding.Reach.TheVariants.{Plain, Relative, Absolute}
use Rattle.qc_descr.specs.declared.description.Description.{Description}
use Rattle.qc_descr.specs.declared.description.Instruction.{Instruction}
use Rattle.qc_descr.specs.declared.description.OperandKind.{OperandKind}
use Rattle.qc_descr.specs.declared.description.OperandKind.TheVariants as kind
use Rattle.qc_descr.specs.CodingFaults.{missing_from}
use Rattle.qc_descr.specs.Description.{kinds_of}
use Rattle.qc_descr.specs.Law.CodedBytes.{covered_at}
use Rattle.qc_descr.specs.Valid.{HasSize, HaveSizes, IsCovered, IsValid}
use Rattle.qc_tiles.specs.declared.tile.Tile.{Tile}
use Rattle.qc_tiles.specs.Names.{shape_of}
use Rattle.qc_code.specs.Reach as reach
use Rattle.qc_code.specs.Reach.{BranchesLast, HasAlignedAddresses, are_aligned, drops_aligned, has_aligned_addresses, is_aligned_operand, line_reaches, reaches_of}
use Rattle.qc_code.specs.Setting.{Line}
use Rattle.qc_code.specs.Work.{all_lines}
use Rattle.qc_derivations.specs.declared.derivation.Bounds.{Bounds}
use Rattle.qc_derivations.specs.declared.derivation.Derivation.{Derivation}
use Rattle.qc_derivations.specs.Forest.{Node}
use Rattle.qc_derivations.specs.Goals.{Need, goals_of}
use Rattle.qc_derivations.specs.Machine.{Assignment, Form, Machine, assignments_of, form_of, machine_of}
use Rattle.qc_derivations.specs.Nodes.{Task, task_of}
use Rattle.qc_derivations.specs.Rules.{address_reaches, addresses_reach, kind_reaches}
use Rattle.qc_derivations.specs.Sequence.{own_slots, sequence_of}
use Rattle.qc_derivations.specs.Valid.{IsValidDerivation}
use Rattle.qc_conditions.proofs.Lines.{Whatever, each_line, root_slot, sequence_lines, whatever}
use Rattle.qc_conditions.proofs.Optional.{and_both, map_parts}
use Rattle.qc_conditions.proofs.Rules.{KeepsRules}
use Rattle.qc_conditions.proofs.Shapes.{is_told}

-- ---- one operand

-- what a reach has that reaches so
pub record ReachesSo (d : Description) (near : Bool) (coding : Coding) (number : ℕ) (r : Reach) : Type 0 where
  pub aligned : is_aligned_operand d coding.bits number r ≡ true
  pub far : near ≡ true → reach.is_relative r ≡ false

not_relative : (near : Bool) → not (near && true) ≡ true → near ≡ true → true ≡ false
not_relative true e is = absurd (cc e)
not_relative false e is = absurd (cc is)

address_so : (d : Description) (near : Bool) (coding : Coding) (number : ℕ) (r : Reach) → address_reaches d.align near number coding r ≡ true → ReachesSo d near coding number r
address_so d near coding number Plain e = record { aligned = refl; far = λ is. refl }
address_so d near coding number (Relative size) e =
    let parts = and_both (nat_eq (d.align % 2 ^ missing_from number coding.bits 0 size) 0) (not (near && true)) e in
    record { aligned = parts.0; far = not_relative near parts.1 }
address_so d near coding number (Absolute size) e =
    let parts = and_both (nat_eq (d.align % 2 ^ missing_from number coding.bits 0 size) 0) (not (near && false)) e in
    record { aligned = parts.0; far = λ is. refl }

operand_so : (d : Description) (near : Bool) (coding : Coding) (number : ℕ) (k : OperandKind) (r : Reach) (size : ℕ) → HasSize d k r size →
    kind_reaches d.align near number coding k (Some r) ≡ true → ReachesSo d near coding number r
operand_so d near coding number kind.Addr r size sized e = address_so d near coding number r e
operand_so d near coding number (kind.Register space) Plain size sized e = record { aligned = refl; far = λ is. refl }
operand_so d near coding number (kind.Register space) (Relative bits) size sized e = absurd sized
operand_so d near coding number (kind.Register space) (Absolute bits) size sized e = absurd sized
operand_so d near coding number (kind.Imm width) Plain size sized e = record { aligned = refl; far = λ is. refl }
operand_so d near coding number (kind.Imm width) (Relative bits) size sized e = absurd sized
operand_so d near coding number (kind.Imm width) (Absolute bits) size sized e = absurd sized

-- ---- all operands

pub record AllReachSo (d : Description) (near : Bool) (coding : Coding) (number : ℕ) (rs : List Reach) : Type 0 where
  pub aligned : are_aligned d coding.bits number rs ≡ true
  pub far : near ≡ true → list_any reach.is_relative rs ≡ false

operands_so : (d : Description) (near : Bool) (coding : Coding) (number : ℕ) (kinds : List OperandKind) (rs : List Reach) (sizes dropped : List ℕ) → HaveSizes d kinds rs sizes dropped →
    ((j : ℕ) → slice_get rs j ≡ slice_get coding.reaches (number + j)) → addresses_reach d.align near coding number kinds ≡ true → AllReachSo d near coding number rs
operands_so d near coding number [] [] [] [] sized shift e = record { aligned = refl; far = λ is. refl }
operands_so d near coding number [] [] [] (n ∷ dropped) sized shift e = absurd sized
operands_so d near coding number [] [] (size ∷ sizes) dropped sized shift e = absurd sized
operands_so d near coding number [] (r ∷ rs) sizes dropped sized shift e = absurd sized
operands_so d near coding number (k ∷ kinds) [] sizes dropped sized shift e = absurd sized
operands_so d near coding number (k ∷ kinds) (r ∷ rs) [] dropped sized shift e = absurd sized
operands_so d near coding number (k ∷ kinds) (r ∷ rs) (size ∷ sizes) [] sized shift e = absurd sized
operands_so d near coding number (k ∷ kinds) (r ∷ rs) (size ∷ sizes) (n ∷ dropped) sized shift e =
    let parts = and_both (kind_reaches d.align near number coding k (slice_get coding.reaches number)) (addresses_reach d.align near coding (number + 1) kinds) e in
    let here : slice_get coding.reaches number ≡ Some r = ap (slice_get coding.reaches) (let plus : number ≡ number + 0 = omega arith in plus) ∙ sym (shift 0) in
    let one = operand_so d near coding number k r size sized.0 (subst (λ o. kind_reaches d.align near number coding k o ≡ true) here parts.0) in
    let next : number + 1 ≡ suc number = omega arith in
    let rest : AllReachSo d near coding (number + 1) rs = operands_so d near coding (number + 1) kinds rs sizes dropped sized.2
    (λ j. shift (suc j) ∙ ap (slice_get coding.reaches) (let plus : number + suc j ≡ (number + 1) + j = omega arith in plus)) parts.1 in
    record {
      aligned = and_from (is_aligned_operand d coding.bits number r) (are_aligned d coding.bits (suc number) rs) one.aligned
          (subst (λ n. are_aligned d coding.bits n rs ≡ true) next rest.aligned);
      far = λ is. ap (λ b. b || list_any reach.is_relative rs) (one.far is) ∙ rest.far is;
    }

-- ---- a node's line

pub node_so : (d : Description) (task : Task) (root : Bool) (goals : List Assignment) (node : Node) (inner : List Need) → IsValid d → task.machine ≡ machine_of d → KeepsRules task root goals node inner →
    (i : Instruction) × (slice_get d.instructions node.instruction ≡ Some i) × AllReachSo d (task.branch && not root) i.coding 0 i.coding.reaches
node_so d task root goals node inner valid on kept =
    let form = map_parts form_of (slice_get d.instructions node.instruction) kept.form
    (sym (slice_get-map form_of d.instructions node.instruction) ∙ ap (λ (m : Machine). slice_get m.forms node.instruction) (sym on) ∙ kept.is_form) in
    let i : Instruction = form.0 in
    let covered : IsCovered d i = covered_at d node.instruction i valid form.1 in
    let reach_so : addresses_reach d.align (task.branch && not root) i.coding 0 (kinds_of i) ≡ true =
    subst (λ (x : Form). addresses_reach d.align (task.branch && not root) x.coding 0 x.kinds ≡ true) (sym form.2)
    (subst (λ (m : Machine). addresses_reach m.align (task.branch && not root) kept.form.coding 0 kept.form.kinds ≡ true) on kept.reach) in (
      i,
      form.1,
      operands_so d (task.branch && not root) i.coding 0 (kinds_of i) i.coding.reaches covered.sizes covered.dropped covered.sized
          (λ j. ap (slice_get i.coding.reaches) (let plus : j ≡ 0 + j = omega arith in plus)) reach_so,
    )

aligned_line : (d : Description) (task : Task) (root : Bool) (goals : List Assignment) (node : Node) (inner : List Need) → IsValid d → task.machine ≡ machine_of d → KeepsRules task root goals node inner →
    has_aligned_addresses d (slice_get d.instructions node.instruction) ≡ true
aligned_line d task root goals node inner valid on kept =
    let it = node_so d task root goals node inner valid on kept in
    ap (has_aligned_addresses d) it.1 ∙ it.2.aligned

far_line : (d : Description) (task : Task) (goals : List Assignment) (node : Node) (inner : List Need) → IsValid d → task.machine ≡ machine_of d → task.branch ≡ true → KeepsRules task false goals node inner →
    list_any reach.is_relative (reaches_of (slice_get d.instructions node.instruction)) ≡ false
far_line d task goals node inner valid on branch kept =
    let it = node_so d task false goals node inner valid on kept in
    ap (λ o. list_any reach.is_relative (reaches_of o)) it.1 ∙ it.2.far (and_from task.branch true branch refl)

-- ---- sequences

pub aligned : (d : Description) (t : Tile) (bounds : Bounds) (derivation : Derivation) → IsValid d → IsValidDerivation d t bounds derivation → HasAlignedAddresses d (sequence_of d t derivation)
aligned d t bounds derivation valid derived =
    let task : Task = task_of d t bounds.laws in
    let test : Line → Bool = λ line. has_aligned_addresses d (slice_get d.instructions line.0) in
    each_line test (sequence_of d t derivation).instances
    (sequence_lines d t bounds derivation Whatever (λ last line. test line) derived
    (λ need own scratch node inner no_root known kept. aligned_line d task false (goals_of need) node inner valid refl kept)
    (λ need own scratch node inner no_root known kept. whatever inner (own_slots own node _))
    (λ node inner kept. aligned_line d task true (assignments_of t.rtl) node inner valid refl kept)
    (λ node inner kept. whatever inner (own_slots (root_slot t) node _)))

pub branches : (d : Description) (t : Tile) (bounds : Bounds) (derivation : Derivation) → IsValid d → IsValidDerivation d t bounds derivation → BranchesLast d t (sequence_of d t derivation)
branches d t bounds derivation valid derived = go (reach.is_branch t) refl
  where
    go : (b : Bool) → reach.is_branch t ≡ b →
        (not b || all_lines (λ last line. last || not (list_any reach.is_relative (line_reaches d line))) (sequence_of d t derivation).instances) ≡ true
    go false is = refl
    go true is =
        let task : Task = task_of d t bounds.laws in
        let branch : task.branch ≡ true = sym (is_told (shape_of t.name)).branch ∙ is in
        sequence_lines d t bounds derivation Whatever (λ last line. last || not (list_any reach.is_relative (line_reaches d line))) derived
        (λ need own scratch node inner no_root known kept. ap not (far_line d task (goals_of need) node inner valid refl branch kept))
        (λ need own scratch node inner no_root known kept. whatever inner (own_slots own node _))
        (λ node inner kept. refl)
        (λ node inner kept. whatever inner (own_slots (root_slot t) node _))
