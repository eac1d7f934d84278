-- The operands that are read from an instance's bytes are those that it was encoded with.
use Rattle.std.proofs.Common.{◌≡◌, ℕ, zero, suc, ◌+◌, ◌-◌, ◌*◌, ◌/◌, ◌%◌, ◌^◌, ◌<◌, ◌≤◌, max, List, [], ◌∷◌, ◌++◌, length, map, take, drop, get_or, Bool, true, false, ◌||◌, cond, Option, Some, refl, sym, ◌∙◌, ap, subst, arith, inl, inr, bit_or, nat_eq, nat_lt}
use Rattle.std.specs.Prelude.{slice_index}
use Rattle.std.specs.Int.{bit_at}
use Rattle.std.specs.List.{AllByRecursion, list_all, list_any, slice_get}
use Rattle.std.proofs.lemmas.Bool.{and_parts, cases_Bool, cases_eq, cases_lt, eq-eqb, eqb-true, le-ltb, lt-ltb, ltb-true, ne_eqb, or_cases}
use Rattle.std.proofs.lemmas.List.{drop_all, drop_more, get_or-map, take_all, take_more}
use Rattle.std.proofs.Math.Nat.{lt_of_lt_of_le, pow-le-pow_right}
use Rattle.std.proofs.lemmas.Option.{get_or_from_slice_get, slice_get_within}
use Rattle.std.proofs.lemmas.Nat.Bits.{bit_at-lt, bit_at-pow_other, bit_at-pow_same, bit_at-zero, bit_at_or, same_from_bits}
use Rattle.qc_lists.specs.Law.Powers.{below_power}
use Rattle.qc_terms.specs.declared.state.Order.{Order}
use Rattle.qc_descr.specs.declared.coding.Bit.{Bit}
use Rattle.qc_descr.specs.declared.coding.Bit.TheVariants.{Fixed, Piece}
use Rattle.qc_descr.specs.declared.coding.Coding.{Coding}
use Rattle.qc_descr.specs.declared.coding.Reach.{Reach}
use Rattle.qc_descr.specs.declared.coding.Reach.TheVariants.{Plain, Relative, Absolute}
use Rattle.qc_descr.specs.declared.description.Description.{Description}
use Rattle.qc_descr.specs.declared.description.Instruction.{Instruction}
use Rattle.qc_descr.specs.declared.description.OperandKind.{OperandKind}
use Rattle.qc_descr.specs.declared.description.OperandKind.TheVariants as kind
use Rattle.qc_descr.specs.declared.description.Space.{Space}
use Rattle.qc_descr.specs.Coding.{bit_value, is_piece, memory_bytes}
use Rattle.qc_descr.specs.Description.{AreInRange, IsInRange, counts_of, kinds_of, IsNarrow}
use Rattle.qc_descr.specs.Encoding.{byte_value, IsCodedBy}
use Rattle.qc_descr.specs.Reach.{IsReached, coded_operands, coded_value}
use Rattle.qc_descr.specs.Valid.{HasLayout, HasSize, IsCovered, IsWithinLimits, is_within}
use Rattle.qc_descr.specs.Law.Bits.{EachBit, bit_value-lt, no_piece_in_bytes, piece_in_bytes}
use Rattle.qc_descr.specs.Law.Operands.{SizedAt, coded_at, in_range_at, length-in_range, sized_at, word_bits}
use Rattle.qc_decode.specs.Inner.OperandsOfBytes.{operand_in_byte, operand_in_bytes, piece_value}

-- a bit at a place of a number
placed_bit : (v a b : ℕ) → v < 2 → bit_at (v * 2 ^ a) b ≡ cond (nat_eq a b) v 0
placed_bit zero a b h =
    let none : 0 * 2 ^ a ≡ 0 = omega arith in
    let either : ◌≡◌ {A = ℕ} 0 (cond (nat_eq a b) 0 0) = elim (cases_Bool (nat_eq a b)) [ inl e ↦ rw e refl | inr e ↦ rw e refl ] in
    rw none (bit_at-zero b ∙ either)
placed_bit (suc zero) a b h =
    let one : 1 * 2 ^ a ≡ 2 ^ a = omega arith in
    elim (cases_eq a b) [
      | inl same ↦ rw one (rw (eq-eqb a b same) (subst (λ i. bit_at (2 ^ a) i ≡ 1) same (bit_at-pow_same a)))
      | inr other ↦ rw one (rw (ne_eqb a b other) (bit_at-pow_other a b (λ e. other (sym e))))
    ]
placed_bit (suc (suc n)) a b h = absurd (omega arith)

piece_bit_named : (xs : List ℕ) (named operand place bit : ℕ) → bit < 64 → named ≡ operand →
    bit_at (cond (nat_lt place 64) (bit_at (slice_index xs named) place * 2 ^ place) 0) bit ≡ cond (nat_eq place bit) (bit_at (slice_index xs operand) bit) 0
piece_bit_named xs named operand place bit h same =
    let value : ℕ = bit_at (slice_index xs named) place in
    elim (cases_eq place bit) [
      | inl here ↦
          ap (λ t. bit_at (cond t (value * 2 ^ place) 0) bit) (lt-ltb place 64 (omega arith))
          ∙ placed_bit value place bit (bit_at-lt (slice_index xs named) place)
          ∙ ap (λ v. cond (nat_eq place bit) v 0) (ap (λ n. bit_at (slice_index xs n) place) same ∙ ap (bit_at (slice_index xs operand)) here)
      | inr other ↦
          let none : cond (nat_eq place bit) (bit_at (slice_index xs operand) bit) 0 ≡ 0 =
          ap (λ t. cond t (bit_at (slice_index xs operand) bit) 0) (ne_eqb place bit other) in
          elim (cases_lt place 64) [
            | inl small ↦
                ap (λ t. bit_at (cond t (value * 2 ^ place) 0) bit) (lt-ltb place 64 small)
                ∙ placed_bit value place bit (bit_at-lt (slice_index xs named) place)
                ∙ ap (λ t. cond t value 0) (ne_eqb place bit other) ∙ sym none
            | inr large ↦
                ap (λ t. bit_at (cond t (value * 2 ^ place) 0) bit) (le-ltb place 64 large) ∙ bit_at-zero bit ∙ sym none
          ]
    ]

-- what a bit of an instance's byte gives to an operand is the operand's bit
pub piece_bit : (xs : List ℕ) (operand bit : ℕ) (b : Bit) → bit < 64 →
    bit_at (piece_value operand b (bit_value xs b)) bit ≡ cond (is_piece operand bit b) (bit_at (slice_index xs operand) bit) 0
piece_bit xs operand bit (Fixed one) h = bit_at-zero bit
piece_bit xs operand bit (Piece named place) h =
    elim (cases_eq named operand) [
      | inl same ↦ rw (eq-eqb named operand same) (piece_bit_named xs named operand place bit h same)
      | inr other ↦ rw (ne_eqb named operand other) (bit_at-zero bit)
    ]

either : (t u : Bool) (v : ℕ) → max (cond t v 0) (cond u v 0) ≡ cond (t || u) v 0
either true true v = omega arith
either true false v = omega arith
either false true v = omega arith
either false false v = omega arith

also : (a v : ℕ) (t u : Bool) → max (max a (cond t v 0)) (cond u v 0) ≡ max a (cond (t || u) v 0)
also a v true true = omega arith
also a v true false = omega arith
also a v false true = omega arith
also a v false false = omega arith

-- the bits of a byte behind its first one
pub higher_bits : (operands : List ℕ) (byte : ℕ) (bits : List Bit) → 1 ≤ length bits → byte ≡ byte_value operands bits →
    byte / 2 ≡ byte_value operands (take (length bits - 1) (drop 1 bits))
higher_bits operands byte [] some h = absurd (omega arith)
higher_bits operands byte (b ∷ bits) some h =
    let small : bit_value operands b < 2 = bit_value-lt operands b in
    let whole : byte ≡ bit_value operands b + 2 * byte_value operands bits = h in
    let half : byte / 2 ≡ byte_value operands bits = omega arith in
    half ∙ ap (byte_value operands) (sym (take_all (suc (length bits) - 1) bits (omega arith)))

-- a bit of what a byte gives to an operand
pub byte_bit : (xs : List ℕ) (operand bit : ℕ) (bits : List Bit) → bit < 64 →
    bit_at (operand_in_byte operand bits (byte_value xs bits)) bit ≡ cond (list_any (is_piece operand bit) bits) (bit_at (slice_index xs operand) bit) 0
byte_bit xs operand bit [] h = bit_at-zero bit
byte_bit xs operand bit (b ∷ bits) h =
    let small : bit_value xs b < 2 = bit_value-lt xs b in
    let first : (bit_value xs b + 2 * byte_value xs bits) % 2 ≡ bit_value xs b = omega arith in
    let rest : (bit_value xs b + 2 * byte_value xs bits) / 2 ≡ byte_value xs bits = omega arith in
    ap (λ v. bit_at (bit_or (piece_value operand b v) (operand_in_byte operand bits ((bit_value xs b + 2 * byte_value xs bits) / 2))) bit) first
    ∙ ap (λ v. bit_at (bit_or (piece_value operand b (bit_value xs b)) (operand_in_byte operand bits v)) bit) rest
    ∙ bit_at_or (piece_value operand b (bit_value xs b)) (operand_in_byte operand bits (byte_value xs bits)) bit
    ∙ ap (λ v. max v (bit_at (operand_in_byte operand bits (byte_value xs bits)) bit)) (piece_bit xs operand bit b h)
    ∙ ap (max (cond (is_piece operand bit b) (bit_at (slice_index xs operand) bit) 0)) (byte_bit xs operand bit bits h)
    ∙ either (is_piece operand bit b) (list_any (is_piece operand bit) bits) (bit_at (slice_index xs operand) bit)

-- a bit of what all bytes give to an operand
pub bytes_bit : (xs : List ℕ) (operand bit value : ℕ) (rows : List (List Bit)) → bit < 64 →
    bit_at (operand_in_bytes operand value rows (map (byte_value xs) rows)) bit
    ≡ max (bit_at value bit) (cond (list_any (list_any (is_piece operand bit)) rows) (bit_at (slice_index xs operand) bit) 0)
bytes_bit xs operand bit value [] h = omega arith
bytes_bit xs operand bit value (bits ∷ rows) h =
    let next : ℕ = bit_or value (operand_in_byte operand bits (byte_value xs bits)) in
    let there : ℕ = cond (list_any (list_any (is_piece operand bit)) rows) (bit_at (slice_index xs operand) bit) 0 in
    bytes_bit xs operand bit next rows h
    ∙ ap (λ v. max v there) (bit_at_or value (operand_in_byte operand bits (byte_value xs bits)) bit)
    ∙ ap (λ v. max (max (bit_at value bit) v) there) (byte_bit xs operand bit bits h)
    ∙ also (bit_at value bit) (bit_at (slice_index xs operand) bit) (list_any (is_piece operand bit) bits) (list_any (list_any (is_piece operand bit)) rows)

-- a row of bits and its byte, one step of a walk over both
pub gathered_more : (operand value next place byte : ℕ) (rows : List (List Bit)) (bytes : List ℕ) (bits : List Bit) →
    slice_get rows place ≡ Some bits → place < length bytes → byte ≡ operand_in_byte operand bits (get_or bytes place 0) → next ≡ bit_or value byte →
    operand_in_bytes operand next (drop (place + 1) rows) (drop (place + 1) bytes) ≡ operand_in_bytes operand value (drop place rows) (drop place bytes)
gathered_more operand value next place byte rows bytes bits row within e f =
    let here : drop place rows ≡ bits ∷ drop (place + 1) rows =
    drop_more rows place [] (slice_get_within rows place bits row) ∙ ap (λ x. x ∷ drop (place + 1) rows) (get_or_from_slice_get rows place bits [] row) in
    ap (λ v. operand_in_bytes operand v (drop (place + 1) rows) (drop (place + 1) bytes)) (f ∙ ap (bit_or value) e)
    ∙ sym (ap (λ x. operand_in_bytes operand value x (drop place bytes)) here
    ∙ ap (operand_in_bytes operand value (bits ∷ drop (place + 1) rows)) (drop_more bytes place 0 within))

pub gathered_all : (operand value place : ℕ) (rows : List (List Bit)) (bytes : List ℕ) → length rows ≤ place →
    operand_in_bytes operand value (drop place rows) (drop place bytes) ≡ value
gathered_all operand value place rows bytes h =
    ap (λ x. operand_in_bytes operand value x (drop place bytes)) (drop_all place rows h)

few_cells : (d : Description) (space : ℕ) → IsWithinLimits d → space < length d.spaces → slice_index (counts_of d) space ≤ 64
few_cells d space limits h =
    let none : Space = record { name = []; cells = 0; width = 1; flags = false } in
    subst (λ n. n ≤ 64) (sym (get_or-map (λ (s : Space). s.cells) d.spaces space none 0 h)) (limits.cells space none h)

-- an operand in range is a word of 64 bits
in_range_small : (d : Description) (k : OperandKind) (reach : Reach) (size operand : ℕ) → HasLayout d → IsWithinLimits d → IsNarrow k →
    HasSize d k reach size → IsInRange d k operand → operand < 2 ^ 64
in_range_small d (kind.Register space) Plain size operand layout limits narrow has range =
    omega (arith, few_cells d space limits has.0, range)
in_range_small d (kind.Register space) (Relative bits) size operand layout limits narrow has range = absurd has
in_range_small d (kind.Register space) (Absolute bits) size operand layout limits narrow has range = absurd has
in_range_small d (kind.Imm width) reach size operand layout limits narrow has range =
    lt_of_lt_of_le range (pow-le-pow_right (omega arith) narrow)
in_range_small d kind.Addr reach size operand layout limits narrow has range =
    let few : d.facts.word ≤ 64 = omega (arith, word_bits d layout) in
    lt_of_lt_of_le range (pow-le-pow_right (omega arith) few)

small_size : (d : Description) (k : OperandKind) (reach : Reach) (size : ℕ) → HasLayout d → IsWithinLimits d → IsNarrow k → HasSize d k reach size → size ≤ 64
small_size d (kind.Register space) Plain size layout limits narrow has =
    omega (arith, few_cells d space limits has.0, has.1, below_power size)
small_size d (kind.Register space) (Relative bits) size layout limits narrow has = absurd has
small_size d (kind.Register space) (Absolute bits) size layout limits narrow has = absurd has
small_size d (kind.Imm width) Plain size layout limits narrow has = omega (arith, has, narrow)
small_size d (kind.Imm width) (Relative bits) size layout limits narrow has = absurd has
small_size d (kind.Imm width) (Absolute bits) size layout limits narrow has = absurd has
small_size d kind.Addr Plain size layout limits narrow has = absurd has
small_size d kind.Addr (Relative bits) size layout limits narrow has = omega (arith, has.1, has.2, word_bits d layout)
small_size d kind.Addr (Absolute bits) size layout limits narrow has = omega (arith, has.1, has.2, word_bits d layout)

gated_there : (t : Bool) (v : ℕ) → t ≡ true → max 0 (cond t v 0) ≡ v
gated_there true v h = omega arith
gated_there false v h = cc

-- a bit that is a piece within the sizes is small
within_size : (sizes : List ℕ) (operand bit : ℕ) (bits : List Bit) → list_all (is_within sizes) bits ≡ true →
    list_any (is_piece operand bit) bits ≡ true → bit < slice_index sizes operand
within_size sizes operand bit [] all some = cc
within_size sizes operand bit (Fixed one ∷ bits) all some = within_size sizes operand bit bits all some
within_size sizes operand bit (Piece o b ∷ bits) all some =
    elim (or_cases (is_piece operand bit (Piece o b)) (list_any (is_piece operand bit) bits) some) [
      | inl here ↦
          let parts : (nat_eq o operand ≡ true) × (nat_eq b bit ≡ true) = and_parts _ _ here in
          let inside : (nat_lt o (length sizes) ≡ true) × (nat_lt b (slice_index sizes o) ≡ true) = and_parts _ _ (and_parts _ _ all).0 in
          subst (λ n. bit < slice_index sizes n) (eqb-true o operand parts.0)
          (subst (λ n. n < slice_index sizes o) (eqb-true b bit parts.1) (ltb-true b (slice_index sizes o) inside.1))
      | inr there ↦ within_size sizes operand bit bits (and_parts _ _ all).1 there
    ]

-- bits that are none of an operand's give it nothing
piece_none : (operand bit v : ℕ) (b : Bit) → v < 2 → is_piece operand bit b ≡ false → bit_at (piece_value operand b v) bit ≡ 0
piece_none operand bit v (Fixed one) small h = bit_at-zero bit
piece_none operand bit v (Piece named place) small h =
    elim (cases_eq named operand) [
      | inl same ↦
          let apart : nat_eq place bit ≡ false = rw (eq-eqb named operand same) at h in
          rw (eq-eqb named operand same) (elim (cases_lt place 64) [
            | inl few ↦
                ap (λ t. bit_at (cond t (v * 2 ^ place) 0) bit) (lt-ltb place 64 few)
                ∙ placed_bit v place bit small ∙ ap (λ t. cond t v 0) apart
            | inr many ↦ ap (λ t. bit_at (cond t (v * 2 ^ place) 0) bit) (le-ltb place 64 many) ∙ bit_at-zero bit
          ])
      | inr other ↦ rw (ne_eqb named operand other) (bit_at-zero bit)
    ]

byte_none : (operand bit : ℕ) (bits : List Bit) (byte : ℕ) → AllByRecursion (λ b. is_piece operand bit b ≡ false) bits →
    bit_at (operand_in_byte operand bits byte) bit ≡ 0
byte_none operand bit [] byte h = bit_at-zero bit
byte_none operand bit (b ∷ bits) byte h =
    omega (
      arith,
      bit_at_or (piece_value operand b (byte % 2)) (operand_in_byte operand bits (byte / 2)) bit,
      piece_none operand bit (byte % 2) b (omega arith) h.0,
      byte_none operand bit bits (byte / 2) h.1,
    )

bytes_none : (operand bit value : ℕ) (rows : List (List Bit)) (bytes : List ℕ) → EachBit (λ b. is_piece operand bit b ≡ false) rows →
    bit_at value bit ≡ 0 → bit_at (operand_in_bytes operand value rows bytes) bit ≡ 0
bytes_none operand bit value [] bytes h e = e
bytes_none operand bit value (bits ∷ rows) [] h e = e
bytes_none operand bit value (bits ∷ rows) (byte ∷ bytes) h e =
    bytes_none operand bit (bit_or value (operand_in_byte operand bits byte)) rows bytes h.1
    (omega (arith, bit_at_or value (operand_in_byte operand bits byte) bit, byte_none operand bit bits byte h.0, e))

-- a value that is read from bytes has no bit that stands nowhere in the coding
pub kept_read : (order : Order) (coding : Coding) (bytes : List ℕ) (number value bit : ℕ) →
    value ≡ operand_in_bytes number 0 (memory_bytes order coding) bytes → list_any (is_piece number bit) coding.bits ≡ false → bit_at value bit ≡ 0
kept_read order coding bytes number value bit read none =
    ap (λ v. bit_at v bit) read
    ∙ bytes_none number bit 0 (memory_bytes order coding) bytes (no_piece_in_bytes order coding number bit none) (bit_at-zero bit)

-- each bit of the value that is read from an instance's bytes is one of the coded value of its operand
value_bit : (d : Description) (i : Instruction) (covered : IsCovered d i) (at : ℕ) (xs bytes : List ℕ) (number value bit : ℕ) (reach : Reach) →
    slice_index covered.sizes number ≤ 64 → number < length xs → slice_get i.coding.reaches number ≡ Some reach → IsCodedBy d i at xs bytes →
    value ≡ operand_in_bytes number 0 (memory_bytes d.facts.order i.coding) bytes →
    bit_at value bit ≡ bit_at (coded_value reach at (slice_index xs number)) bit
value_bit d i covered at xs bytes number value bit reach small within is coded read =
    let rows : List (List Bit) = memory_bytes d.facts.order i.coding in
    let cs : List ℕ = coded_operands i.coding.reaches at xs in
    let one : slice_index cs number ≡ coded_value reach at (slice_index xs number) = coded_at i.coding.reaches at xs number reach is within in
    elim (cases_Bool (list_any (is_piece number bit) i.coding.bits)) [
      | inl placed ↦
          let few : bit < 64 = omega (arith, within_size covered.sizes number bit i.coding.bits covered.within placed, small) in
          ap (λ v. bit_at v bit) (read ∙ ap (operand_in_bytes number 0 rows) coded.bytes_are)
          ∙ bytes_bit cs number bit 0 rows few
          ∙ ap (λ v. max v (cond (list_any (list_any (is_piece number bit)) rows) (bit_at (slice_index cs number) bit) 0)) (bit_at-zero bit)
          ∙ gated_there (list_any (list_any (is_piece number bit)) rows) (bit_at (slice_index cs number) bit)
          (piece_in_bytes d.facts.order i.coding number bit covered.tokens covered.no_free_bit placed)
          ∙ ap (λ v. bit_at v bit) one
      | inr none ↦
          kept_read d.facts.order i.coding bytes number value bit read none ∙ sym ((coded.codable number reach is).kept bit none)
    ]

-- the value that is read from an instance's bytes is the coded value of its operand
value_read : (d : Description) (i : Instruction) (covered : IsCovered d i) (at : ℕ) (xs bytes : List ℕ) (number value : ℕ) (k : OperandKind) (reach : Reach) →
    HasLayout d → IsWithinLimits d → IsNarrow k → slice_get (kinds_of i) number ≡ Some k → slice_get i.coding.reaches number ≡ Some reach →
    IsCodedBy d i at xs bytes → value ≡ operand_in_bytes number 0 (memory_bytes d.facts.order i.coding) bytes →
    coded_value reach at (slice_index xs number) ≡ value
value_read d i covered at xs bytes number value k reach layout limits narrow kind_is is coded read =
    let sized : SizedAt d k i.coding.reaches covered.sizes covered.dropped number =
    sized_at d (kinds_of i) i.coding.reaches covered.sizes covered.dropped number k covered.sized kind_is in
    let small : slice_index covered.sizes number ≤ 64 = small_size d k sized.reach (slice_index covered.sizes number) layout limits narrow sized.size in
    let within : number < length xs =
    omega (arith, length-in_range d (kinds_of i) xs coded.in_range, slice_get_within (kinds_of i) number k kind_is) in
    sym (same_from_bits _ _ (λ bit. value_bit d i covered at xs bytes number value bit reach small within is coded read))

-- an operand that is the only one with its coded value is the instance's
pub only_operand : (d : Description) (i : Instruction) (covered : IsCovered d i) (at : ℕ) (xs bytes : List ℕ) (number value : ℕ) (k : OperandKind) (reach : Reach)
    (found : Option ℕ) → HasLayout d → IsWithinLimits d → IsNarrow k → slice_get (kinds_of i) number ≡ Some k →
    slice_get i.coding.reaches number ≡ Some reach → IsCodedBy d i at xs bytes →
    value ≡ operand_in_bytes number 0 (memory_bytes d.facts.order i.coding) bytes →
    ((x : ℕ) → x < 2 ^ 64 → IsInRange d k x → IsReached reach at x → coded_value reach at x ≡ value → found ≡ Some x) → found ≡ Some (slice_index xs number)
only_operand d i covered at xs bytes number value k reach found layout limits narrow kind_is is coded read only =
    let sized : SizedAt d k i.coding.reaches covered.sizes covered.dropped number =
    sized_at d (kinds_of i) i.coding.reaches covered.sizes covered.dropped number k covered.sized kind_is in
    let range : IsInRange d k (slice_index xs number) = in_range_at d (kinds_of i) xs number k coded.in_range kind_is in
    only (slice_index xs number)
    (in_range_small d k sized.reach (slice_index covered.sizes number) (slice_index xs number) layout limits narrow sized.size range)
    range (coded.codable number reach is).reached
    (value_read d i covered at xs bytes number value k reach layout limits narrow kind_is is coded read)

-- an operand that was read, one step of a walk over them
pub read_more : (d : Description) (kinds : List OperandKind) (xs ys : List ℕ) (number x : ℕ) → AreInRange d kinds xs → number < length kinds →
    ys ≡ take number xs → x ≡ slice_index xs number → ys ++ x ∷ [] ≡ take (number + 1) xs
read_more d kinds xs ys number x range h e f =
    ap (λ zs. zs ++ x ∷ []) e ∙ ap (λ z. take number xs ++ z ∷ []) f ∙ sym (take_more xs number 0 (omega (arith, length-in_range d kinds xs range)))
