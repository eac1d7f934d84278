-- Each bit of a coding stands in one of its bytes in memory, and no other bits do.
use Rattle.std.proofs.Common.{◌≡◌, ℕ, zero, suc, ◌+◌, ◌*◌, ◌/◌, ◌<◌, List, [], ◌∷◌, length, take, drop, sum, Bool, true, false, cond, IsTrue, refl, sym, ◌∙◌, ap, subst, arith, inl, inr, count_by, nat_eq}
use Rattle.std.specs.Prelude.{reverse, slice_index}
use Rattle.std.specs.List.{AllByRecursion, list_all, list_any}
use Rattle.std.proofs.lemmas.Bool.{and_from, and_parts, both_ways, cases_Bool, cases_eq, eq-eqb, eqb-true, or_cases, or_left, or_parts, or_right}
use Rattle.std.proofs.lemmas.List.{drop-take, length-drop, nil_from_length, reverse-append, take-append-drop, take-take}
use Rattle.std.proofs.lemmas.List.Sums.{sum_by-cons}
use Rattle.std.proofs.lemmas.Nat.Bits.{bit_at-lt}
use Rattle.qc_lists.specs.Law.Lists.{each_append, each_of_append}
use Rattle.qc_terms.specs.declared.state.Order.{Order}
use Rattle.qc_terms.specs.declared.state.Order.TheVariants.{Little, Big}
use Rattle.qc_descr.specs.declared.coding.Bit.{Bit}
use Rattle.qc_descr.specs.declared.coding.Bit.TheVariants.{Fixed, Piece}
use Rattle.qc_descr.specs.declared.coding.Coding.{Coding}
use Rattle.qc_descr.specs.Coding.{bit_value, bytes_of_bits, is_piece, memory_bytes, token_bytes, tokens_bytes}
use Rattle.qc_descr.specs.Valid.{all_below, is_token}
use Rattle.qc_descr.specs.Law.Places.{token_size}

-- a bit of a coding is 0 or 1, whatever the operands are
pub bit_value-lt : (operands : List ℕ) (b : Bit) → bit_value operands b < 2
bit_value-lt operands (Fixed true) = omega arith
bit_value-lt operands (Fixed false) = omega arith
bit_value-lt operands (Piece operand bit) = bit_at-lt (slice_index operands operand) bit

-- what holds of each element of a list, by recursion on it
pub each_of_parts : {X : Type 0} (P : X → Type 0) (n : ℕ) (xs : List X) → AllByRecursion P (take n xs) → AllByRecursion P (drop n xs) → AllByRecursion P xs
each_of_parts P n xs h k = subst (AllByRecursion P) (take-append-drop n xs) (each_append P (take n xs) (drop n xs) h k)

pub each_of_reverse : {X : Type 0} (P : X → Type 0) (xs : List X) → AllByRecursion P (reverse xs) → AllByRecursion P xs
each_of_reverse P [] h = tt
each_of_reverse P (x ∷ xs) h =
    let parts : AllByRecursion P (reverse xs) × AllByRecursion P (x ∷ []) =
    each_of_append P (reverse xs) (x ∷ []) (subst (AllByRecursion P) (reverse-append (x ∷ []) xs) h) in
    (parts.1.0, each_of_reverse P xs parts.0)

-- what holds of each bit of each byte
abbrev pub EachBit : (Bit → Type 0) → List (List Bit) → Type 0
EachBit P bytes = AllByRecursion (AllByRecursion P) bytes

pub each_of_bytes : (P : Bit → Type 0) (n : ℕ) (bits : List Bit) → EachBit P (bytes_of_bits n bits) → AllByRecursion P (take (8 * n) bits)
each_of_bytes P zero bits h = tt
each_of_bytes P (suc n) bits h =
    let front : List Bit = take (8 * suc n) bits in
    let more : 8 * suc n ≡ 8 + 8 * n = omega arith in
    let first : AllByRecursion P (take 8 front) =
    subst (AllByRecursion P) (sym (take-take 8 (8 * suc n) bits (omega arith))) h.0 in
    let rest : AllByRecursion P (drop 8 front) =
    subst (AllByRecursion P) (sym (ap (λ m. drop 8 (take m bits)) more ∙ drop-take 8 (8 * n) bits)) (each_of_bytes P n (drop 8 bits) h.1) in
    each_of_parts P 8 front first rest

pub each_of_token : (P : Bit → Type 0) (order : Order) (size : ℕ) (bits : List Bit) → 8 * (size / 8) ≡ size →
    EachBit P (token_bytes order size bits) → AllByRecursion P (take size bits)
each_of_token P Little size bits whole h =
    subst (λ n. AllByRecursion P (take n bits)) whole (each_of_bytes P (size / 8) bits h)
each_of_token P Big size bits whole h =
    subst (λ n. AllByRecursion P (take n bits)) whole
    (each_of_bytes P (size / 8) bits (each_of_reverse (AllByRecursion P) (bytes_of_bits (size / 8) bits) h))

pub each_of_tokens : (P : Bit → Type 0) (order : Order) (tokens : List ℕ) (bits : List Bit) → IsTrue (list_all is_token tokens) →
    length bits ≡ sum tokens → EachBit P (tokens_bytes order tokens bits) → AllByRecursion P bits
each_of_tokens P order [] bits fits count h = subst (AllByRecursion P) (sym (nil_from_length bits count)) tt
each_of_tokens P order (size ∷ sizes) bits fits count h =
    let each_fits : (is_token size ≡ true) × (list_all is_token sizes ≡ true) = and_parts _ _ fits in
    let total : sum (size ∷ sizes) ≡ size + sum sizes = sum_by-cons (λ n. n) size sizes in
    let parts : EachBit P (token_bytes order size bits) × EachBit P (tokens_bytes order sizes (drop size bits)) =
    each_of_append (AllByRecursion P) (token_bytes order size bits) (tokens_bytes order sizes (drop size bits)) h in
    let left : length (drop size bits) ≡ sum sizes = length-drop size bits ∙ omega (arith, count, total) in
    each_of_parts P size bits
    (each_of_token P order size bits (token_size size each_fits.0).0 parts.0)
    (each_of_tokens P order sizes (drop size bits) each_fits.1 left parts.1)

-- a bit that stands in some place
pub piece_stands : (P : Bit → Type 0) (operand bit : ℕ) (bits : List Bit) → list_any (is_piece operand bit) bits ≡ true →
    AllByRecursion P bits → P (Piece operand bit)
piece_stands P operand bit [] some h = cc
piece_stands P operand bit (Fixed one ∷ bits) some h = piece_stands P operand bit bits some h.1
piece_stands P operand bit (Piece o b ∷ bits) some h =
    elim (or_cases (is_piece operand bit (Piece o b)) (list_any (is_piece operand bit) bits) some) [
      | inl here ↦
          let parts : (nat_eq o operand ≡ true) × (nat_eq b bit ≡ true) = and_parts _ _ here in
          subst (λ x. P (Piece x bit)) (eqb-true o operand parts.0) (subst (λ y. P (Piece o y)) (eqb-true b bit parts.1) h.0)
      | inr there ↦ piece_stands P operand bit bits there h.1
    ]

-- what is counted is there
pub any_counted : (test : Bit → Bool) (bits : List Bit) → 0 < count_by test bits → list_any test bits ≡ true
any_counted test [] some = absurd (omega arith)
any_counted test (b ∷ bits) some =
    elim (cases_Bool (test b)) [
      | inl here ↦ or_left (test b) (list_any test bits) here
      | inr other ↦
          let count : count_by test (b ∷ bits) ≡ cond (test b) 1 0 + count_by test bits = sum_by-cons (λ x. cond (test x) 1 0) b bits in
          let none : ◌≡◌ {A = ℕ} (cond (test b) 1 0) 0 = ap (λ t. cond t 1 0) other in
          or_right (test b) (list_any test bits) (any_counted test bits (omega (arith, count, none, some)))
    ]

-- a test that fails at each bit, and at each bit of each byte
pub no_bit : (test : Bit → Bool) (bits : List Bit) → list_any test bits ≡ false → AllByRecursion (λ b. test b ≡ false) bits
no_bit test [] h = tt
no_bit test (b ∷ bits) h =
    let parts : (test b ≡ false) × (list_any test bits ≡ false) = or_parts (test b) (list_any test bits) h in
    (parts.0, no_bit test bits parts.1)

pub no_byte : (test : Bit → Bool) (bytes : List (List Bit)) → list_any (list_any test) bytes ≡ false → EachBit (λ b. test b ≡ false) bytes
no_byte test [] h = tt
no_byte test (bits ∷ bytes) h =
    let parts : (list_any test bits ≡ false) × (list_any (list_any test) bytes ≡ false) = or_parts (list_any test bits) (list_any (list_any test) bytes) h in
    (no_bit test bits parts.0, no_byte test bytes parts.1)

pub is_its_piece : (operand bit : ℕ) → is_piece operand bit (Piece operand bit) ≡ true
is_its_piece operand bit = and_from _ _ (eq-eqb operand operand refl) (eq-eqb bit bit refl)

-- a bit of an operand that stands in the coding stands in one of its bytes
pub piece_in_bytes : (order : Order) (coding : Coding) (operand bit : ℕ) → IsTrue (list_all is_token coding.tokens) →
    length coding.bits ≡ sum coding.tokens → list_any (is_piece operand bit) coding.bits ≡ true →
    IsTrue (list_any (list_any (is_piece operand bit)) (memory_bytes order coding))
piece_in_bytes order coding operand bit tokens count some =
    elim (cases_Bool (list_any (list_any (is_piece operand bit)) (memory_bytes order coding))) [
      | inl there ↦ there
      | inr none ↦
          let absent : is_piece operand bit (Piece operand bit) ≡ false =
          piece_stands (λ b. is_piece operand bit b ≡ false) operand bit coding.bits some
          (each_of_tokens (λ b. is_piece operand bit b ≡ false) order coding.tokens coding.bits tokens count
          (no_byte (is_piece operand bit) (memory_bytes order coding) none)) in
          absurd (both_ways _ absent (is_its_piece operand bit))
    ]

-- what holds of each bit of a coding holds of each bit of its bytes
pub each_in_bytes : (P : Bit → Type 0) (n : ℕ) (bits : List Bit) → AllByRecursion P bits → EachBit P (bytes_of_bits n bits)
each_in_bytes P zero bits h = tt
each_in_bytes P (suc n) bits h =
    let parts : AllByRecursion P (take 8 bits) × AllByRecursion P (drop 8 bits) =
    each_of_append P (take 8 bits) (drop 8 bits) (subst (AllByRecursion P) (sym (take-append-drop 8 bits)) h) in
    (parts.0, each_in_bytes P n (drop 8 bits) parts.1)

pub each_in_reverse : {X : Type 0} (P : X → Type 0) (xs : List X) → AllByRecursion P xs → AllByRecursion P (reverse xs)
each_in_reverse P [] h = tt
each_in_reverse P (x ∷ xs) h =
    subst (AllByRecursion P) (sym (reverse-append (x ∷ []) xs)) (each_append P (reverse xs) (x ∷ []) (each_in_reverse P xs h.1) (h.0, tt))

pub each_in_token : (P : Bit → Type 0) (order : Order) (size : ℕ) (bits : List Bit) → AllByRecursion P bits → EachBit P (token_bytes order size bits)
each_in_token P Little size bits h = each_in_bytes P (size / 8) bits h
each_in_token P Big size bits h =
    each_in_reverse (AllByRecursion P) (bytes_of_bits (size / 8) bits) (each_in_bytes P (size / 8) bits h)

pub each_in_tokens : (P : Bit → Type 0) (order : Order) (tokens : List ℕ) (bits : List Bit) → AllByRecursion P bits →
    EachBit P (tokens_bytes order tokens bits)
each_in_tokens P order [] bits h = tt
each_in_tokens P order (size ∷ sizes) bits h =
    let parts : AllByRecursion P (take size bits) × AllByRecursion P (drop size bits) =
    each_of_append P (take size bits) (drop size bits) (subst (AllByRecursion P) (sym (take-append-drop size bits)) h) in
    each_append (AllByRecursion P) (token_bytes order size bits) (tokens_bytes order sizes (drop size bits))
    (each_in_token P order size bits h) (each_in_tokens P order sizes (drop size bits) parts.1)

-- a bit of an operand that stands nowhere in the coding stands in none of its bytes
pub no_piece_in_bytes : (order : Order) (coding : Coding) (operand bit : ℕ) → list_any (is_piece operand bit) coding.bits ≡ false →
    EachBit (λ b. is_piece operand bit b ≡ false) (memory_bytes order coding)
no_piece_in_bytes order coding operand bit none =
    each_in_tokens (λ b. is_piece operand bit b ≡ false) order coding.tokens coding.bits (no_bit (is_piece operand bit) coding.bits none)

-- a test of each number below n
pub below_of_all : (n : ℕ) (test : ℕ → Bool) (k : ℕ) → all_below n test ≡ true → k < n → test k ≡ true
unfolding all_below
below_of_all zero test k h less = absurd (omega arith)
below_of_all (suc n) test k h less =
    elim (cases_eq k n) [
      | inl same ↦ subst (λ i. test i ≡ true) (sym same) (and_parts _ _ h).0
      | inr other ↦ below_of_all n test k (and_parts _ _ h).1 (omega (arith, other))
    ]
