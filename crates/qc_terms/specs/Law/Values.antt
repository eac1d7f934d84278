-- The value of a typed term is a word of the term's width.
use Rattle.std.proofs.Common.{◌≡◌, ◌∙◌, ℕ, ◌+◌, ◌-◌, ◌*◌, ◌/◌, ◌^◌, ◌<◌, ◌≤◌, List, [], ◌∷◌, take, drop, length, map, nat_le, Option, None, Some, IfSome, All, option_and_then, inl, inr, suc, refl, reverse, sym, subst, arith}
use Rattle.std.specs.Prelude.{slice_index}
use Rattle.std.specs.Option.{option_map}
use Rattle.std.proofs.Math.Nat.{pow-suc}
use Rattle.std.proofs.lemmas.Bool.{cases_Bool, cases_lt}
use Rattle.std.proofs.lemmas.List.{get_or-map, get_or-reverse, get_or_past, length-drop, length-reverse, length-take-le}
use Rattle.std.proofs.lemmas.List.Elements.{All-drop, All-from_get_or, All-head, All-tail, All-take}
use Rattle.std.proofs.lemmas.Nat.{pow_pos}
use Rattle.qc_words.specs.Law.Results.{result_of-lt}
use Rattle.qc_words.specs.Operators.{result_of}
use Rattle.qc_terms.specs.declared.state.Order.{Order}
use Rattle.qc_terms.specs.declared.state.Order.TheVariants.{Little, Big}
use Rattle.qc_terms.specs.declared.state.State.{State}
use Rattle.qc_terms.specs.declared.term.Place.{Place}
use Rattle.qc_terms.specs.declared.term.Place.TheVariants.{Cell, Operand}
use Rattle.qc_terms.specs.Cells.{HasCell, cell_of, row_of}
use Rattle.qc_terms.specs.Memory.{in_order, load_of, number_of}
use Rattle.qc_terms.specs.State.{IsState, context_of, is_zero_cell}
use Rattle.qc_terms.specs.Tree.{AddressAfter, Binary, Immediate, Load, NextInput, Number, Register, Tree, Unary, width_of}
use Rattle.qc_terms.specs.Typing.{IsAccessWidth, IsRegister, IsTyped, OperandsFit, PlaceFits}
use Rattle.qc_terms.specs.Value.{index_of, next_input_of, read_of, space_of, value_of}

-- ---- words in memory

-- a number with so many digits in base 256
pub number_of-lt : (bytes : List ℕ) → All (λ byte. byte < 256) bytes → number_of bytes < 256 ^ length bytes
unfolding number_of
number_of-lt [] small = omega arith
number_of-lt (byte ∷ bytes) small =
    let rest = number_of-lt bytes (All-tail (λ b. b < 256) byte bytes small) in
    let first = All-head (λ b. b < 256) byte bytes small in
    let more : 256 ^ suc (length bytes) ≡ 256 ^ length bytes * 256 = pow-suc 256 (length bytes) in
    let bound : byte + 256 * number_of bytes < 256 ^ suc (length bytes) = omega (arith, rest, first, more) in
    bound

in_order-bytes : (order : Order) (bytes : List ℕ) → All (λ byte. byte < 256) bytes →
    (length (in_order order bytes) ≡ length bytes) × All (λ byte. byte < 256) (in_order order bytes)
in_order-bytes Little bytes small = (refl, small)
in_order-bytes Big bytes small = (
  length-reverse bytes,
  All-from_get_or (λ byte. byte < 256) (reverse bytes) 0
      (λ i inside. let inside' : i < length bytes = omega (arith, inside, length-reverse bytes) in
      subst (λ b. b < 256) (sym (get_or-reverse bytes i 0 inside')) (small (length bytes - 1 - i) 0 (omega (arith, inside')))),
)

access_power : (width : ℕ) → IsAccessWidth width → 256 ^ (width / 8) ≡ 2 ^ width
access_power width (inl e) = subst (λ w. 256 ^ (w / 8) ≡ 2 ^ w) (sym e) refl
access_power width (inr (inl e)) = subst (λ w. 256 ^ (w / 8) ≡ 2 ^ w) (sym e) refl
access_power width (inr (inr (inl e))) = subst (λ w. 256 ^ (w / 8) ≡ 2 ^ w) (sym e) refl
access_power width (inr (inr (inr e))) = subst (λ w. 256 ^ (w / 8) ≡ 2 ^ w) (sym e) refl

-- a word that is loaded has its bytes' bits
pub loads_are_words : (order : Order) (memory : List ℕ) (count address : ℕ) → All (λ byte. byte < 256) memory →
    IfSome (load_of order memory count address) (λ word. word < 256 ^ count)
loads_are_words order memory count address small = elim (cases_Bool (nat_le (address + count) (length memory))) [
  | inl inside ↦
      let bytes = take count (drop address memory) in
      let room : address + count ≤ length memory = grind (arith, inside) in
      let size : length bytes ≡ count =
      length-take-le count (drop address memory) (omega (arith, length-drop address memory, room)) in
      let ordered = in_order-bytes order bytes
      (All-take (λ b. b < 256) count (drop address memory) (All-drop (λ b. b < 256) address memory small)) in
      let bound = number_of-lt (in_order order bytes) ordered.1 in
      rw inside (subst (λ n. number_of (in_order order bytes) < 256 ^ n) (ordered.0 ∙ size) bound)
  | inr outside ↦ rw outside tt
]

-- ---- cells

-- a register that fits the operands is a cell of its space
register_cell : (s : State) (operands : List ℕ) (place : Place) (width : ℕ) → IsState s → IsRegister (context_of s) place width →
    PlaceFits (context_of s) operands place →
    HasCell s.cells (space_of place) (index_of place operands) × (width ≡ slice_index s.widths (space_of place))
register_cell s operands (Cell space index) width state is_register fits =
    let inside : space < length s.cells = omega (arith, state.spaces, is_register.0) in
    let counted : slice_index (map length s.cells) space ≡ length (row_of s.cells space) = get_or-map length s.cells space [] 0 inside in
    ((inside, omega (arith, counted, is_register.2)), is_register.1)
register_cell s operands (Operand space number) width state is_register fits =
    let inside : space < length s.cells = omega (arith, state.spaces, is_register.0) in
    let counted : slice_index (map length s.cells) space ≡ length (row_of s.cells space) = get_or-map length s.cells space [] 0 inside in
    ((inside, omega (arith, counted, fits.1)), is_register.1)

read_is_word : (s : State) (space index width : ℕ) → IsState s → HasCell s.cells space index → width ≡ slice_index s.widths space →
    read_of s space index < 2 ^ width
read_is_word s space index width state has_cell same = elim (cases_Bool (is_zero_cell s.facts.zero space index)) [
  | inl zero_cell ↦ rw zero_cell (pow_pos width)
  | inr other ↦ rw other (subst (λ w. cell_of s.cells space index < 2 ^ w) (sym same) (state.words space index has_cell))
]

-- ---- terms

-- the value of a part, and of a whole that has a word where the part has one
of_part : {X Y : Type 0} (f : X → Option Y) (r : Option X) (P : X → Type 0) (Q : Y → Type 0) → IfSome r P →
    ((x : X) → P x → IfSome (f x) Q) → IfSome (option_and_then f r) Q
of_part f None P Q part step = tt
of_part f (Some x) P Q part step = step x part

mapped_part : {X Y : Type 0} (f : X → Y) (r : Option X) (P : X → Type 0) (Q : Y → Type 0) → IfSome r P →
    ((x : X) → P x → Q (f x)) → IfSome (option_map f r) Q
mapped_part f None P Q part step = tt
mapped_part f (Some x) P Q part step = step x part

-- the next word of the input, which is 0 where it has been read whole
next_is_word : (s : State) → IsState s → next_input_of s < 2 ^ s.facts.word
next_is_word s state = elim (cases_lt s.taken (length s.input)) [
  | inl inside ↦ state.input s.taken 0 inside
  | inr over ↦ subst (λ n. n < 2 ^ s.facts.word) (sym (get_or_past s.input s.taken 0 over)) (pow_pos s.facts.word)
]

-- The value of a typed term, where it has one, is a word of the term's width: in a state that keeps its rule, with operands
-- that fit and a word after the instruction.
pub value_of-lt : (s : State) (operands : List ℕ) (after : ℕ) → IsState s → after < 2 ^ s.facts.word → (t : Tree) →
    IsTyped (context_of s) t → OperandsFit (context_of s) operands t →
    IfSome (value_of t operands after s) (λ v. v < 2 ^ width_of t)
value_of-lt s operands after state small (Number value width) typed fits = typed
value_of-lt s operands after state small (Unary op arg) typed fits =
    mapped_part (λ a. result_of op (width_of arg) a 0) (value_of arg operands after s) (λ a. a < 2 ^ width_of arg)
    (λ v. v < 2 ^ width_of (Unary op arg))
    (value_of-lt s operands after state small arg typed.2 fits)
    (λ a word. result_of-lt op (width_of arg) a 0 typed.1 word (pow_pos (width_of arg)))
value_of-lt s operands after state small (Binary op l r) typed fits =
    let w = width_of l in
    of_part (λ a. option_map (λ b. result_of op w a b) (value_of r operands after s)) (value_of l operands after s)
    (λ a. a < 2 ^ w) (λ v. v < 2 ^ width_of (Binary op l r))
    (value_of-lt s operands after state small l typed.3 fits.0)
    (λ a first. mapped_part (λ b. result_of op w a b) (value_of r operands after s) (λ b. b < 2 ^ width_of r)
    (λ v. v < 2 ^ width_of (Binary op l r))
    (value_of-lt s operands after state small r typed.4 fits.1)
    (λ b second. result_of-lt op w a b typed.1 first (subst (λ n. b < 2 ^ n) (sym typed.2) second)))
value_of-lt s operands after state small (Register place width) typed fits =
    let cell = register_cell s operands place width state typed fits in
    read_is_word s (space_of place) (index_of place operands) width state cell.0 cell.1
value_of-lt s operands after state small (Immediate operand width) typed fits = fits.1
value_of-lt s operands after state small (Load width address) typed fits =
    of_part (load_of s.facts.order s.memory (width / 8)) (value_of address operands after s) (λ a. a < 2 ^ width_of address)
    (λ v. v < 2 ^ width)
    (value_of-lt s operands after state small address typed.1 fits)
    (λ a word. subst (λ n. IfSome (load_of s.facts.order s.memory (width / 8) a) (λ v. v < n)) (access_power width typed.0.width)
    (loads_are_words s.facts.order s.memory (width / 8) a state.memory))
value_of-lt s operands after state small (NextInput width) typed fits =
    subst (λ w. next_input_of s < 2 ^ w) (sym typed) (next_is_word s state)
value_of-lt s operands after state small (AddressAfter width) typed fits = subst (λ w. after < 2 ^ w) (sym typed) small
