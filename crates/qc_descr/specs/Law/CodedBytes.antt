-- The bytes of an instruction: how many there are, and each by its place.
use Rattle.std.proofs.Common.{◌≡◌, ℕ, ◌+◌, ◌*◌, ◌/◌, ◌<◌, ◌≤◌, List, [], ◌∷◌, length, drop, sum, get_or, Some, IsTrue, refl, sym, ◌∙◌, ap, subst, arith, length-append}
use Rattle.std.specs.List.{slice_get, list_all}
use Rattle.std.proofs.lemmas.Bool.{and_parts}
use Rattle.std.proofs.lemmas.Option.{slice_get_read, slice_get_within, get_or_from_slice_get}
use Rattle.std.proofs.lemmas.List.{get_or-map, length-map}
use Rattle.std.proofs.lemmas.List.Sums.{sum_by-cons}
use Rattle.qc_terms.specs.declared.state.Order.{Order}
use Rattle.qc_descr.specs.declared.coding.Bit.{Bit}
use Rattle.qc_descr.specs.declared.coding.Coding.{Coding}
use Rattle.qc_descr.specs.declared.description.Description.{Description}
use Rattle.qc_descr.specs.declared.description.Instruction.{Instruction}
use Rattle.qc_descr.specs.Coding.{token_bytes, tokens_bytes, memory_bytes}
use Rattle.qc_descr.specs.Encoding.{byte_value, coded_bytes}
use Rattle.qc_descr.specs.Valid.{IsCovered, IsValid, IsValidInstruction, is_token}
use Rattle.qc_descr.specs.Law.Places.{length-token_bytes, token_size}

-- as many bytes as the tokens have
pub length-tokens_bytes : (order : Order) (tokens : List ℕ) (bits : List Bit) → IsTrue (list_all is_token tokens) →
    length (tokens_bytes order tokens bits) ≡ sum tokens / 8
length-tokens_bytes order [] bits h = refl
length-tokens_bytes order (size ∷ sizes) bits h =
    let fits : (IsTrue (is_token size)) × (IsTrue (list_all is_token sizes)) = and_parts _ _ h in
    let whole : 8 * (size / 8) ≡ size = (token_size size fits.0).0 in
    let total : sum (size ∷ sizes) ≡ size + sum sizes = sum_by-cons (λ n. n) size sizes in
    let first : length (token_bytes order size bits) ≡ size / 8 = length-token_bytes order size bits in
    let rest : length (tokens_bytes order sizes (drop size bits)) ≡ sum sizes / 8 = length-tokens_bytes order sizes (drop size bits) fits.1 in
    let both : size / 8 + sum sizes / 8 ≡ sum (size ∷ sizes) / 8 = omega arith in
    length-append (token_bytes order size bits) (tokens_bytes order sizes (drop size bits))
    ∙ omega (arith, first, rest, both)

pub length-coded_bytes : (order : Order) (coding : Coding) (operands : List ℕ) → IsTrue (list_all is_token coding.tokens) →
    length (coded_bytes order coding operands) ≡ sum coding.tokens / 8
length-coded_bytes order coding operands h =
    length-map (memory_bytes order coding) (byte_value operands) ∙ length-tokens_bytes order coding.tokens coding.bits h

-- a byte of a coding under coded values of operands
pub coded_byte : (order : Order) (coding : Coding) (operands : List ℕ) (i : ℕ) (bits : List Bit) →
    slice_get (memory_bytes order coding) i ≡ Some bits → byte_value operands bits ≡ get_or (coded_bytes order coding operands) i 0
coded_byte order coding operands i bits h =
    let bytes : List (List Bit) = memory_bytes order coding in
    let within : i < length bytes = slice_get_within bytes i bits h in
    sym (get_or-map (byte_value operands) bytes i [] 0 within ∙ ap (byte_value operands) (get_or_from_slice_get bytes i bits [] h))

-- the tokens' sizes sum to some bytes, and to few
pub sum_most : (tokens : List ℕ) → IsTrue (list_all is_token tokens) → sum tokens ≤ 32 * length tokens
sum_most [] h = omega arith
sum_most (size ∷ sizes) h =
    let fits : (IsTrue (is_token size)) × (IsTrue (list_all is_token sizes)) = and_parts _ _ h in
    let total : sum (size ∷ sizes) ≡ size + sum sizes = sum_by-cons (λ n. n) size sizes in
    omega (arith, token_size size fits.0, sum_most sizes fits.1, total)

pub sum_least : (tokens : List ℕ) → IsTrue (list_all is_token tokens) → 1 ≤ length tokens → 8 ≤ sum tokens
sum_least [] h k = absurd (omega arith)
sum_least (size ∷ sizes) h k =
    let fits : (IsTrue (is_token size)) × (IsTrue (list_all is_token sizes)) = and_parts _ _ h in
    let total : sum (size ∷ sizes) ≡ size + sum sizes = sum_by-cons (λ n. n) size sizes in
    omega (arith, token_size size fits.0, total)

-- a covered instruction has few bits
pub few_bits : (d : Description) (i : Instruction) → IsCovered d i → sum i.coding.tokens ≤ 128
few_bits d i covered = omega (arith, sum_most i.coding.tokens covered.tokens, covered.few_tokens)

-- an instruction of a valid description
pub valid_at : (d : Description) (number : ℕ) (i : Instruction) → IsValid d → slice_get d.instructions number ≡ Some i → IsValidInstruction d i
valid_at d number i valid is =
    subst (IsValidInstruction d) (get_or_from_slice_get d.instructions number i i is)
    (valid.instructions number i (slice_get_within d.instructions number i is))

pub covered_at : (d : Description) (number : ℕ) (i : Instruction) → IsValid d → slice_get d.instructions number ≡ Some i → IsCovered d i
covered_at d number i valid is = (valid_at d number i valid is).covered

pub few_operands : (d : Description) (number : ℕ) (i : Instruction) → IsValid d → slice_get d.instructions number ≡ Some i → length i.operands ≤ 8
few_operands d number i valid is =
    subst (λ (x : Instruction). length x.operands ≤ 8) (get_or_from_slice_get d.instructions number i i is)
    (valid.limits.operands number i (slice_get_within d.instructions number i is))

-- an instruction that was read, by its number
pub instruction_read : (d : Description) (xs : List Instruction) (number : ℕ) (i : Instruction) → xs ≡ d.instructions → number < length xs →
    i ≡ get_or xs number i → slice_get d.instructions number ≡ Some i
instruction_read d xs number i e within read =
    ap (λ ys. slice_get ys number) (sym e) ∙ slice_get_read xs (length xs) number i refl within read
