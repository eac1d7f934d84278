-- Terms read the same where lines stand at other addresses, but for marked words.
use Rattle.std.proofs.Common.{◌≡◌, ◌∙◌, ◌+◌, ◌/◌, ◌<◌, ◌≤◌, ℕ, zero, suc, List, [], ◌∷◌, length, take, drop, Bool, true, false, None, Some, option_and_then, slice_index, if◌then◌else◌, nat_le, inl, inr, refl, ap, sym, subst, arith}
use Rattle.std.specs.Option.{option_map}
use Rattle.std.proofs.Math.Seq.{drop-cons}
use Rattle.std.proofs.lemmas.Bool.{cases_lt, le-leb}
use Rattle.qc_words.specs.Operators.{result_of}
use Rattle.qc_terms.specs.declared.term.Place.{Place}
use Rattle.qc_terms.specs.declared.term.Place.TheVariants.{Cell, Operand}
use Rattle.qc_terms.specs.Cells.{cell_of}
use Rattle.qc_terms.specs.Memory.{in_order, load_of, number_of}
use Rattle.qc_terms.specs.State.{is_zero_cell}
use Rattle.qc_terms.specs.Tree.{Tree, Number, Unary, Binary, Register, Immediate, Load, NextInput, AddressAfter, width_of}
use Rattle.qc_terms.specs.Value.{index_of, read_of, space_of}
use Rattle.qc_meaning.specs.Fine.{IsFineAddress, IsFineTerm, Rules}
use Rattle.qc_meaning.specs.Marks.{Address, Clean, Mark, Reading, Stray, bytes_mark, joined, cell_mark, is_clean, load_mark, mark_of, place_mark, worth}

-- ---- marks

pub joined-left : (m n : Mark) → joined m n ≡ Clean → m ≡ Clean
joined-left Clean n clean = refl
joined-left Address Clean clean = clean
joined-left Address Address clean = clean
joined-left Address Stray clean = absurd (apart clean)
  where
    apart : Stray ≡ Clean → ⊥
    apart e = cc
joined-left Stray n clean = clean

pub joined-right : (m n : Mark) → joined m n ≡ Clean → n ≡ Clean
joined-right Clean n clean = clean
joined-right Address n clean = absurd (apart (joined-left Address n clean))
  where
    apart : Address ≡ Clean → ⊥
    apart e = cc
joined-right Stray n clean = absurd (apart (joined-left Stray n clean))
  where
    apart : Stray ≡ Clean → ⊥
    apart e = cc

-- ---- two readings of one line

-- Both read the same marks, and where there is none, the same words.
pub record ReadAlike (r q : Reading) : Type 0 where
  pub cell_marks : q.cell ≡ r.cell
  pub operand_marks : q.operand ≡ r.operand
  pub after_mark : q.after ≡ r.after
  pub byte_marks : q.byte ≡ r.byte
  pub operands : (n : ℕ) → r.operand n ≡ Clean → slice_index q.operands n ≡ slice_index r.operands n
  pub next : r.after ≡ Clean → q.next ≡ r.next
  pub zero_cell : q.state.facts.zero ≡ r.state.facts.zero
  pub order : q.state.facts.order ≡ r.state.facts.order
  pub cells : (space index : ℕ) → is_zero_cell r.state.facts.zero space index ≡ false → r.cell space index ≡ Clean →
      cell_of q.state.cells space index ≡ cell_of r.state.cells space index
  pub memory : length q.state.memory ≡ length r.state.memory
  pub bytes : (a : ℕ) → a < length r.state.memory → r.byte a ≡ Clean → slice_index q.state.memory a ≡ slice_index r.state.memory a
  pub input : q.state.input ≡ r.state.input
  pub taken : q.state.taken ≡ r.state.taken

-- ---- registers

pub clash : true ≡ false → ⊥
clash e = cc

pub is_clean-clean : (m : Mark) → is_clean m ≡ true → m ≡ Clean
is_clean-clean Clean is = refl
is_clean-clean Address is = absurd (clash (sym is))
is_clean-clean Stray is = absurd (clash (sym is))

same_cell_mark : (r q : Reading) → ReadAlike r q → (space index : ℕ) → cell_mark q space index ≡ cell_mark r space index
same_cell_mark r q alike space index =
    ap (λ z. if is_zero_cell z space index then Clean else q.cell space index) alike.zero_cell
    ∙ ap (λ cell. if is_zero_cell r.state.facts.zero space index then Clean else cell space index) alike.cell_marks

same_place_mark : (r q : Reading) → ReadAlike r q → (place : Place) → place_mark q place ≡ place_mark r place
same_place_mark r q alike (Cell space index) = same_cell_mark r q alike space index
same_place_mark r q alike (Operand space number) =
    ap (λ marks. if is_clean (marks number) then cell_mark q space (slice_index q.operands number) else Stray) alike.operand_marks
    ∙ go (is_clean (r.operand number)) refl
  where
    go : (clean : Bool) → is_clean (r.operand number) ≡ clean →
        (if is_clean (r.operand number) then cell_mark q space (slice_index q.operands number) else Stray)
        ≡ (if is_clean (r.operand number) then cell_mark r space (slice_index r.operands number) else Stray)
    go true is =
        ap (λ index. if is_clean (r.operand number) then cell_mark q space index else Stray)
        (alike.operands number (is_clean-clean (r.operand number) is))
        ∙ ap (λ mark. if is_clean (r.operand number) then mark else Stray) (same_cell_mark r q alike space (slice_index r.operands number))
    go false is = cc

-- a cell without a mark reads the same
same_read : (r q : Reading) → ReadAlike r q → (space index : ℕ) → cell_mark r space index ≡ Clean →
    read_of q.state space index ≡ read_of r.state space index
same_read r q alike space index clean =
    ap (λ z. if is_zero_cell z space index then 0 else cell_of q.state.cells space index) alike.zero_cell
    ∙ go (is_zero_cell r.state.facts.zero space index) refl clean
  where
    go : (b : Bool) → is_zero_cell r.state.facts.zero space index ≡ b → (if b then Clean else r.cell space index) ≡ Clean →
        (if b then 0 else cell_of q.state.cells space index) ≡ (if b then 0 else cell_of r.state.cells space index)
    go true is none = refl
    go false is none = alike.cells space index is none

same_register : (r q : Reading) → ReadAlike r q → (place : Place) → place_mark r place ≡ Clean →
    read_of q.state (space_of place) (index_of place q.operands) ≡ read_of r.state (space_of place) (index_of place r.operands)
same_register r q alike (Cell space index) clean = same_read r q alike space index clean
same_register r q alike (Operand space number) clean = go (is_clean (r.operand number)) refl clean
  where
    apart : Stray ≡ Clean → ⊥
    apart e = cc

    go : (b : Bool) → is_clean (r.operand number) ≡ b → (if b then cell_mark r space (slice_index r.operands number) else Stray) ≡ Clean →
        read_of q.state space (slice_index q.operands number) ≡ read_of r.state space (slice_index r.operands number)
    go true is none =
        ap (read_of q.state space) (alike.operands number (is_clean-clean (r.operand number) is))
        ∙ same_read r q alike space (slice_index r.operands number) none
    go false is none = absurd (apart none)

-- ---- memory

-- bytes that are the same one by one are the same together
same_bytes : (xs ys : List ℕ) (count address : ℕ) → length ys ≡ length xs → address + count ≤ length xs →
    ((a : ℕ) → address ≤ a → a < address + count → slice_index ys a ≡ slice_index xs a) →
    take count (drop address ys) ≡ take count (drop address xs)
same_bytes xs ys zero address lengths inside same = take-nothing (drop address ys) ∙ sym (take-nothing (drop address xs))
  where
    take-nothing : (zs : List ℕ) → take 0 zs ≡ []
    take-nothing zs = refl
same_bytes xs ys (suc count) address lengths inside same =
    ap (take (suc count)) (drop-cons ys address 0 (omega (arith, lengths, inside)))
    ∙ ap (λ b. b ∷ take count (drop (suc address) ys)) (same address (omega arith) (omega arith))
    ∙ ap (λ bs. slice_index xs address ∷ bs)
    (same_bytes xs ys count (suc address) lengths (omega (arith, inside)) (λ a least less. same a (omega (arith, least)) (omega (arith, less))))
    ∙ sym (ap (take (suc count)) (drop-cons xs address 0 (omega (arith, inside))))

-- the bytes of which all marks together are clean
clean_byte : (byte : ℕ → Mark) (count address : ℕ) → bytes_mark byte count address ≡ Clean → (a : ℕ) → address ≤ a → a < address + count →
    byte a ≡ Clean
clean_byte byte zero address clean a least less = absurd (omega (arith, least, less))
clean_byte byte (suc count) address clean a least less = elim (cases_lt address a) [
  | inl later ↦ clean_byte byte count (suc address) (joined-right (byte address) (bytes_mark byte count (suc address)) clean) a
      (omega (arith, later)) (omega (arith, less))
  | inr here ↦ subst (λ i. byte i ≡ Clean) (omega (arith, here, least)) (joined-left (byte address) (bytes_mark byte count (suc address)) clean)
]

-- an allowed access is inside memory
abbrev pub AreInside : Rules → ℕ → Type 0
AreInside rules memory = (address count : ℕ) → rules.allowed address count ≡ true → address + count ≤ memory

same_load : (r q : Reading) → ReadAlike r q → (count address : ℕ) → address + count ≤ length r.state.memory →
    bytes_mark r.byte count address ≡ Clean →
    load_of q.state.facts.order q.state.memory count address ≡ load_of r.state.facts.order r.state.memory count address
same_load r q alike count address inside clean =
    ap (λ order. load_of order q.state.memory count address) alike.order
    ∙ ap (λ n. if nat_le (address + count) n then Some (number_of (in_order r.state.facts.order (take count (drop address q.state.memory)))) else None)
    alike.memory
    ∙ ap
    (λ bytes. if nat_le (address + count) (length r.state.memory) then Some (number_of (in_order r.state.facts.order bytes)) else None)
    (same_bytes r.state.memory q.state.memory count address alike.memory inside
    (λ a least less. alike.bytes a (omega (arith, less, inside)) (clean_byte r.byte count address clean a least less)))

-- ---- terms

-- the value of a fine term is there
pub record HasWorth (r : Reading) (t : Tree) : Type 0 where
  pub word : ℕ
  pub is : worth r t ≡ Some word

pub has_worth : (rules : Rules) (r : Reading) → AreInside rules (length r.state.memory) → (t : Tree) → IsFineTerm rules r t → HasWorth r t
has_worth rules r inside (Number value width) fine = record { word = value; is = refl }
has_worth rules r inside (Unary op arg) fine =
    let it = has_worth rules r inside arg fine in
    record { word = result_of op (width_of arg) it.word 0; is = ap (option_map (λ a. result_of op (width_of arg) a 0)) it.is }
has_worth rules r inside (Binary op left right) fine =
    let a = has_worth rules r inside left fine.0 in
    let b = has_worth rules r inside right fine.1 in
    record {
      word = result_of op (width_of left) a.word b.word;
      is =
          ap (option_and_then (λ x. option_map (λ y. result_of op (width_of left) x y) (worth r right))) a.is
          ∙ ap (option_map (λ y. result_of op (width_of left) a.word y)) b.is;
    }
has_worth rules r inside (Register place width) fine = record { word = read_of r.state (space_of place) (index_of place r.operands); is = refl }
has_worth rules r inside (Immediate operand width) fine = record { word = slice_index r.operands operand; is = refl }
has_worth rules r inside (Load width address) fine =
    let at = fine.1 in
    record {
      word = number_of (in_order r.state.facts.order (take (width / 8) (drop at.address r.state.memory)));
      is =
          ap (option_and_then (load_of r.state.facts.order r.state.memory (width / 8))) at.is
          ∙ ap
          (λ b. if b then Some (number_of (in_order r.state.facts.order (take (width / 8) (drop at.address r.state.memory)))) else None)
          (le-leb (at.address + width / 8) (length r.state.memory) (inside at.address (width / 8) at.allowed));
    }
has_worth rules r inside (NextInput width) fine = record { word = slice_index r.state.input r.state.taken; is = refl }
has_worth rules r inside (AddressAfter width) fine = record { word = r.next; is = refl }

-- A fine term has one mark for both readings, and one value where it is clean.
pub record SameRead (r q : Reading) (t : Tree) : Type 0 where
  pub mark : mark_of q t ≡ mark_of r t
  pub word : mark_of r t ≡ Clean → worth q t ≡ worth r t

-- what an access by the other reading is
same_load_read : (rules : Rules) (r q : Reading) → ReadAlike r q → AreInside rules (length r.state.memory) → (width : ℕ) (address : Tree) →
    IsFineAddress rules r (width / 8) address → SameRead r q address → SameRead r q (Load width address)
same_load_read rules r q alike inside width address fine same =
    let there : worth q address ≡ Some fine.address = same.word fine.clean ∙ fine.is in
    let count = width / 8 in
    record {
      mark =
          ap (load_mark q.byte count) there
          ∙ ap (λ byte. bytes_mark byte count fine.address) alike.byte_marks
          ∙ sym (ap (load_mark r.byte count) fine.is);
      word = λ clean.
          ap (option_and_then (load_of q.state.facts.order q.state.memory count)) there
          ∙ same_load r q alike count fine.address (inside fine.address count fine.allowed)
          (sym (ap (load_mark r.byte count) fine.is) ∙ clean)
          ∙ sym (ap (option_and_then (load_of r.state.facts.order r.state.memory count)) fine.is);
    }

pub same_reads : (rules : Rules) (r q : Reading) → ReadAlike r q → AreInside rules (length r.state.memory) → (t : Tree) →
    IsFineTerm rules r t → SameRead r q t
same_reads rules r q alike inside (Number value width) fine = record { mark = refl; word = λ clean. refl }
same_reads rules r q alike inside (Unary op arg) fine =
    let same = same_reads rules r q alike inside arg fine in
    record {
      mark = same.mark;
      word = λ clean. ap (option_map (λ a. result_of op (width_of arg) a 0)) (same.word clean);
    }
same_reads rules r q alike inside (Binary op left right) fine =
    let first = same_reads rules r q alike inside left fine.0 in
    let second = same_reads rules r q alike inside right fine.1 in
    record {
      mark = ap (λ m. joined m (mark_of q right)) first.mark ∙ ap (joined (mark_of r left)) second.mark;
      word = λ clean.
          ap (option_and_then (λ a. option_map (λ b. result_of op (width_of left) a b) (worth q right)))
          (first.word (joined-left (mark_of r left) (mark_of r right) clean))
          ∙ ap (λ w. option_and_then (λ a. option_map (λ b. result_of op (width_of left) a b) w) (worth r left))
          (second.word (joined-right (mark_of r left) (mark_of r right) clean));
    }
same_reads rules r q alike inside (Register place width) fine =
    record { mark = same_place_mark r q alike place; word = λ clean. ap Some (same_register r q alike place clean) }
same_reads rules r q alike inside (Immediate operand width) fine = record {
  mark = ap (λ marks. marks operand) alike.operand_marks;
  word = λ clean. ap Some (alike.operands operand clean);
}
same_reads rules r q alike inside (Load width address) fine =
    same_load_read rules r q alike inside width address fine.1 (same_reads rules r q alike inside address fine.0)
same_reads rules r q alike inside (NextInput width) fine = record {
  mark = refl;
  word = λ clean.
      ap (λ input. Some (slice_index input q.state.taken)) alike.input ∙ ap (λ taken. Some (slice_index r.state.input taken)) alike.taken;
}
same_reads rules r q alike inside (AddressAfter width) fine =
    record { mark = alike.after_mark; word = λ clean. ap Some (alike.next clean) }

-- what is fine for one reading is fine for the other
pub fine_address_too : (rules : Rules) (r q : Reading) (count : ℕ) (t : Tree) → SameRead r q t → IsFineAddress rules r count t →
    IsFineAddress rules q count t
fine_address_too rules r q count t same fine = record {
  clean = same.mark ∙ fine.clean;
  address = fine.address;
  is = same.word fine.clean ∙ fine.is;
  allowed = fine.allowed;
}

pub fine_too : (rules : Rules) (r q : Reading) → ReadAlike r q → AreInside rules (length r.state.memory) → (t : Tree) → IsFineTerm rules r t →
    IsFineTerm rules q t
fine_too rules r q alike inside (Number value width) fine = tt
fine_too rules r q alike inside (Unary op arg) fine = fine_too rules r q alike inside arg fine
fine_too rules r q alike inside (Binary op left right) fine =
    (fine_too rules r q alike inside left fine.0, fine_too rules r q alike inside right fine.1)
fine_too rules r q alike inside (Register place width) fine = tt
fine_too rules r q alike inside (Immediate operand width) fine = tt
fine_too rules r q alike inside (Load width address) fine = (
  fine_too rules r q alike inside address fine.0,
  fine_address_too rules r q (width / 8) address (same_reads rules r q alike inside address fine.0) fine.1,
)
fine_too rules r q alike inside (NextInput width) fine = tt
fine_too rules r q alike inside (AddressAfter width) fine = tt
