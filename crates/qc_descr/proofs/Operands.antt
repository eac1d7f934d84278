-- The operands of an instance, from the bits of its bytes.
use Rattle.std.proofs.Common.{◌≡◌, ℕ, ◌<◌, ◌≤◌, List, [], ◌∷◌, ◌++◌, length, map, get_or, true, cond, IsTrue, sym, ◌∙◌, ap, arith, inl, inr, count_by, nat_eq, nat_lt}
use Rattle.std.specs.Prelude.{slice_index}
use Rattle.std.specs.Int.{bit_at}
use Rattle.std.specs.List.{AllByRecursion, list_any}
use Rattle.std.proofs.lemmas.Bool.{cases_Bool, eqb-true, le-ltb}
use Rattle.std.proofs.lemmas.List.{ext_get_or}
use Rattle.std.proofs.lemmas.Nat.Bits.{same_from_bits}
use Rattle.std.proofs.lemmas.Option.{slice_get-get_or}
use Rattle.qc_descr.specs.declared.coding.Bit.{Bit}
use Rattle.qc_descr.specs.declared.coding.Reach.{Reach}
use Rattle.qc_descr.specs.declared.description.Description.{Description}
use Rattle.qc_descr.specs.declared.description.Instruction.{Instruction}
use Rattle.qc_descr.specs.declared.description.OperandKind.{OperandKind}
use Rattle.qc_descr.specs.declared.description.OperandKind.TheVariants.{Addr}
use Rattle.qc_descr.specs.Coding.{bit_value, is_piece, memory_bytes}
use Rattle.qc_descr.specs.Description.{AreInRange, kinds_of}
use Rattle.qc_descr.specs.Encoding.{AreCodable, IsCodable, byte_value}
use Rattle.qc_descr.specs.Reach.{coded_operands, coded_value}
use Rattle.qc_descr.specs.Valid.{IsCovered}
use Rattle.qc_descr.specs.Law.Bits.{EachBit, any_counted, below_of_all, each_of_tokens, piece_in_bytes, piece_stands}
use Rattle.qc_descr.specs.Law.Operands.{SizedAt, coded_at, length-in_range, reached_once, sized_at}
use Rattle.qc_descr.proofs.Apart.{byte_parts}

-- the bit has the same value under both lists of coded values
abbrev pub IsSame : List ℕ → List ℕ → Bit → Type 0
IsSame xs ys b = bit_value xs b ≡ bit_value ys b

same_byte : (xs ys : List ℕ) (bits : List Bit) → byte_value xs bits ≡ byte_value ys bits → AllByRecursion (IsSame xs ys) bits
same_byte xs ys [] h = tt
same_byte xs ys (b ∷ bits) h =
    let parts : (bit_value xs b ≡ bit_value ys b) × (byte_value xs bits ≡ byte_value ys bits) = byte_parts xs ys b b bits bits h in
    (parts.0, same_byte xs ys bits parts.1)

pub same_bytes : (xs ys more other : List ℕ) (bytes : List (List Bit)) →
    map (byte_value xs) bytes ++ more ≡ map (byte_value ys) bytes ++ other → EachBit (IsSame xs ys) bytes
same_bytes xs ys more other [] h = tt
same_bytes xs ys more other (bits ∷ bytes) h =
    let first : byte_value xs bits ≡ byte_value ys bits = cc in
    let rest : map (byte_value xs) bytes ++ more ≡ map (byte_value ys) bytes ++ other = cc in
    (same_byte xs ys bits first, same_bytes xs ys more other bytes rest)

-- each bit of each operand that isn't dropped stands once in the coding
stands : (d : Description) (i : Instruction) (covered : IsCovered d i) (operand bit : ℕ) → operand < length covered.sizes →
    slice_index covered.dropped operand ≤ bit → bit < slice_index covered.sizes operand → list_any (is_piece operand bit) i.coding.bits ≡ true
stands d i covered operand bit within above small =
    let once : nat_eq (count_by (is_piece operand bit) i.coding.bits) (cond (nat_lt bit (slice_index covered.dropped operand)) 0 1) ≡ true =
    below_of_all (slice_index covered.sizes operand) _ bit (below_of_all (length covered.sizes) _ operand covered.once within) small in
    let count : count_by (is_piece operand bit) i.coding.bits ≡ 1 =
    eqb-true _ _ once ∙ ap (λ t. cond t 0 1) (le-ltb bit (slice_index covered.dropped operand) above) in
    any_counted (is_piece operand bit) i.coding.bits (omega arith)

pub pieces_stand : (d : Description) (i : Instruction) (covered : IsCovered d i) (operand bit : ℕ) → operand < length covered.sizes →
    slice_index covered.dropped operand ≤ bit → bit < slice_index covered.sizes operand →
    IsTrue (list_any (list_any (is_piece operand bit)) (memory_bytes d.facts.order i.coding))
pieces_stand d i covered operand bit within above small =
    piece_in_bytes d.facts.order i.coding operand bit covered.tokens covered.no_free_bit (stands d i covered operand bit within above small)

-- a bit of a coded value stands in the coding, or is 0
same_bit : (d : Description) (i : Instruction) (reach : Reach) (at x y number bit : ℕ) (xs ys : List ℕ) →
    slice_index xs number ≡ coded_value reach at x → slice_index ys number ≡ coded_value reach at y →
    IsCodable i.coding.bits reach at number x → IsCodable i.coding.bits reach at number y →
    AllByRecursion (IsSame xs ys) i.coding.bits → bit_at (coded_value reach at x) bit ≡ bit_at (coded_value reach at y) bit
same_bit d i reach at x y number bit xs ys e f a b each =
    elim (cases_Bool (list_any (is_piece number bit) i.coding.bits)) [
      | inl placed ↦
          ap (λ v. bit_at v bit) (sym e) ∙ piece_stands (IsSame xs ys) number bit i.coding.bits placed each ∙ ap (λ v. bit_at v bit) f
      | inr none ↦ a.kept bit none ∙ sym (b.kept bit none)
    ]

-- so the bytes determine each operand
same_operand : (d : Description) (i : Instruction) (at number : ℕ) (xs ys : List ℕ) → IsCovered d i →
    AreInRange d (kinds_of i) xs → AreInRange d (kinds_of i) ys → AreCodable i.coding at xs → AreCodable i.coding at ys →
    AllByRecursion (IsSame (coded_operands i.coding.reaches at xs) (coded_operands i.coding.reaches at ys)) i.coding.bits →
    number < length xs → slice_index xs number ≡ slice_index ys number
same_operand d i at number xs ys covered range other a b each within =
    let count : length xs ≡ length (kinds_of i) = length-in_range d (kinds_of i) xs range in
    let count_too : length ys ≡ length (kinds_of i) = length-in_range d (kinds_of i) ys other in
    let k : OperandKind = get_or (kinds_of i) number Addr in
    let sized : SizedAt d k i.coding.reaches covered.sizes covered.dropped number =
    sized_at d (kinds_of i) i.coding.reaches covered.sizes covered.dropped number k covered.sized
    (slice_get-get_or (kinds_of i) number Addr (omega arith)) in
    let one : IsCodable i.coding.bits sized.reach at number (slice_index xs number) = a number sized.reach sized.is in
    let two : IsCodable i.coding.bits sized.reach at number (slice_index ys number) = b number sized.reach sized.is in
    reached_once d k sized.reach (slice_index covered.sizes number) at (slice_index xs number) (slice_index ys number) sized.size one.reached two.reached
    (same_from_bits _ _ (λ bit. same_bit d i sized.reach at (slice_index xs number) (slice_index ys number) number bit
    (coded_operands i.coding.reaches at xs) (coded_operands i.coding.reaches at ys)
    (coded_at i.coding.reaches at xs number sized.reach sized.is within)
    (coded_at i.coding.reaches at ys number sized.reach sized.is (omega arith)) one two each))

pub same_instance : (d : Description) (i : Instruction) (at : ℕ) (xs ys more other : List ℕ) → IsCovered d i →
    AreInRange d (kinds_of i) xs → AreInRange d (kinds_of i) ys → AreCodable i.coding at xs → AreCodable i.coding at ys →
    map (byte_value (coded_operands i.coding.reaches at xs)) (memory_bytes d.facts.order i.coding) ++ more
    ≡ map (byte_value (coded_operands i.coding.reaches at ys)) (memory_bytes d.facts.order i.coding) ++ other →
    xs ≡ ys
same_instance d i at xs ys more other covered range range_too a b h =
    let coded : List ℕ = coded_operands i.coding.reaches at xs in
    let coded_too : List ℕ = coded_operands i.coding.reaches at ys in
    let each : AllByRecursion (IsSame coded coded_too) i.coding.bits =
    each_of_tokens (IsSame coded coded_too) d.facts.order i.coding.tokens i.coding.bits covered.tokens covered.no_free_bit
    (same_bytes coded coded_too more other (memory_bytes d.facts.order i.coding) h) in
    ext_get_or 0 xs ys (length-in_range d (kinds_of i) xs range ∙ sym (length-in_range d (kinds_of i) ys range_too))
    (λ number within. same_operand d i at number xs ys covered range range_too a b each within)
