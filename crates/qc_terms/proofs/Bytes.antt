-- Numbers as digits in base 256, and memory with some of its bytes changed.
use Rattle.std.proofs.Common.{◌≡◌, ◌∙◌, ℕ, zero, suc, ◌+◌, ◌-◌, ◌*◌, ◌/◌, ◌%◌, ◌^◌, ◌<◌, ◌≤◌, List, [], ◌∷◌, ◌++◌, take, drop, length, get_or, slice_set, nat_le, true, Some, refl, sym, ap, subst, arith}
use Rattle.std.proofs.Math.Arith.{mod-mul}
use Rattle.std.proofs.Math.Nat.{mod-one, one-le-pow, pow-suc, pow-le-pow_right}
use Rattle.std.proofs.Math.Seq.{drop-append_seam, set-append_seam, take-append_seam}
use Rattle.std.proofs.lemmas.List.{at_drop_more, drop_more, take_more, append_assoc, length-append, length-take-le, length-drop, length-reverse, reverse-reverse}
use Rattle.qc_terms.specs.declared.state.Order.{Order}
use Rattle.qc_terms.specs.declared.state.Order.TheVariants.{Little, Big}
use Rattle.qc_terms.specs.Memory.{digits_of, in_order, load_of, number_of, store_of, with_bytes}

-- the number of a word of so many bytes, one byte more from the least significant side
pub number-more : (ds : List ℕ) (n t word digit : ℕ) → n ≡ length ds → t < n → word ≡ number_of (drop (n - t) ds) →
    digit ≡ get_or ds (n - 1 - t) 0 → word * 256 + digit ≡ number_of (drop (n - (t + 1)) ds)
unfolding number_of
number-more ds n t word digit size inside is_word is_digit =
    let k = n - (t + 1) in
    let next : k + 1 ≡ n - t = omega (arith, inside) in
    let place : n - 1 - t ≡ k = omega (arith, inside) in
    let within : k < length ds = omega (arith, inside, size) in
    let front : number_of (drop k ds) ≡ get_or ds k 0 + 256 * number_of (drop (k + 1) ds) =
    at_drop_more number_of ds k 0 within in
    let rest : number_of (drop (k + 1) ds) ≡ word = ap (λ m. number_of (drop m ds)) next ∙ sym is_word in
    let first : get_or ds k 0 ≡ digit = ap (λ m. get_or ds m 0) (sym place) ∙ sym is_digit in
    omega (arith, front, rest, first)

-- a number of fewer than eight digits has room for one more
pub room-for-digit : (word t : ℕ) → word < 256 ^ t → t < 8 → word < 2 ^ 56
room-for-digit word t below few =
    let most : 256 ^ t ≤ 256 ^ 7 = pow-le-pow_right (omega arith) {i = t} {j = 7} (omega (arith, few)) in
    omega (arith, below, most)

pub below-more : (word digit t : ℕ) → word < 256 ^ t → digit < 256 → word * 256 + digit < 256 ^ (t + 1)
below-more word digit t below small =
    let step : 256 ^ (t + 1) ≡ 256 ^ t * 256 = ap (λ n. 256 ^ n) (let e : t + 1 ≡ suc t = omega arith in e) ∙ pow-suc 256 t in
    omega (arith, step, below, small)

-- one more byte written
pub with-more : (memory : List ℕ) (address : ℕ) (bytes : List ℕ) (i : ℕ) → address + length bytes ≤ length memory → i < length bytes →
    slice_set (with_bytes memory address (take i bytes)) (address + i) (get_or bytes i 0) ≡ with_bytes memory address (take (i + 1) bytes)
with-more memory address bytes i room inside =
    let byte = get_or bytes i 0 in
    let front = take address memory ++ take i bytes in
    let old = get_or memory (address + i) 0 in
    let rest = drop (address + i + 1) memory in
    let size : length (take i bytes) ≡ i = length-take-le i bytes (omega (arith, inside)) in
    let more : length (take (i + 1) bytes) ≡ i + 1 = length-take-le (i + 1) bytes (omega (arith, inside)) in
    let whole : length front ≡ address + i =
    omega (arith, length-append (take address memory) (take i bytes), length-take-le address memory (omega (arith, room)), size) in
    let before : with_bytes memory address (take i bytes) ≡ front ++ (old ∷ rest) =
    ap (λ n. take address memory ++ (take i bytes ++ drop (address + n) memory)) size
    ∙ ap (λ d. take address memory ++ (take i bytes ++ d)) (drop_more memory (address + i) 0 (omega (arith, room, inside)))
    ∙ sym (append_assoc (take address memory) (take i bytes) (old ∷ rest)) in
    let after : with_bytes memory address (take (i + 1) bytes) ≡ front ++ (byte ∷ rest) =
    ap (λ n. take address memory ++ (take (i + 1) bytes ++ drop n memory)) (let e : address + length (take (i + 1) bytes) ≡ address + i + 1 = omega (arith, more) in e)
    ∙ ap (λ t. take address memory ++ (t ++ rest)) (take_more bytes i 0 inside)
    ∙ ap (λ t. take address memory ++ t) (append_assoc (take i bytes) (byte ∷ []) rest)
    ∙ sym (append_assoc (take address memory) (take i bytes) (byte ∷ rest)) in
    ap (λ xs. slice_set xs (address + i) byte) before
    ∙ subst (λ n. slice_set (front ++ (old ∷ rest)) n byte ≡ front ++ (byte ∷ rest)) whole (set-append_seam front old rest byte)
    ∙ sym after

-- the memory keeps its length
pub with_bytes-length : (memory : List ℕ) (address : ℕ) (bytes : List ℕ) → address + length bytes ≤ length memory →
    length (with_bytes memory address bytes) ≡ length memory
with_bytes-length memory address bytes room =
    omega (
      arith,
      length-append (take address memory) (bytes ++ drop (address + length bytes) memory),
      length-append bytes (drop (address + length bytes) memory),
      length-take-le address memory (omega (arith, room)),
      length-drop (address + length bytes) memory,
      room,
    )

pub in_order-length : (order : Order) (bytes : List ℕ) → length (in_order order bytes) ≡ length bytes
in_order-length Little bytes = refl
in_order-length Big bytes = length-reverse bytes

pub digits-length : (count n : ℕ) → length (digits_of count n) ≡ count
unfolding digits_of
digits-length zero n = refl
digits-length (suc count) n = let e = digits-length count (n / 256) in omega (arith, e)

number_of-digits : (count n : ℕ) → number_of (digits_of count n) ≡ n % 256 ^ count
unfolding number_of digits_of
number_of-digits zero n = sym (mod-one n)
number_of-digits (suc count) n =
    let rest = number_of-digits count (n / 256) in
    let split : n % (256 ^ count * 256) ≡ (n / 256 % 256 ^ count) * 256 + n % 256 =
    mod-mul n (one-le-pow count 256 (omega arith)) (omega arith) in
    ap (λ r. n % 256 + 256 * r) rest ∙ omega (arith, split)
    ∙ sym (ap (λ m. n % m) (pow-suc 256 count))

in_order_twice : (order : Order) (bytes : List ℕ) → in_order order (in_order order bytes) ≡ bytes
in_order_twice Little bytes = refl
in_order_twice Big bytes = reverse-reverse bytes

-- the bytes that were written stand there
written : (memory : List ℕ) (address : ℕ) (bytes : List ℕ) → address + length bytes ≤ length memory →
    take (length bytes) (drop address (with_bytes memory address bytes)) ≡ bytes
written memory address bytes room =
    let front = take address memory in
    let rest = drop (address + length bytes) memory in
    let size : length front ≡ address = length-take-le address memory (omega (arith, room)) in
    ap (λ n. take (length bytes) (drop n (with_bytes memory address bytes))) (sym size)
    ∙ ap (λ xs. take (length bytes) xs) (drop-append_seam front (bytes ++ rest))
    ∙ take-append_seam bytes rest

pub load-store : (order : Order) (memory : List ℕ) (count address word : ℕ) → address + count ≤ length memory →
    load_of order (store_of order memory count address word) count address ≡ Some (word % 256 ^ count)
load-store order memory count address word room =
    let bytes = in_order order (digits_of count word) in
    let size : length bytes ≡ count = in_order-length order (digits_of count word) ∙ digits-length count word in
    let fits : address + length bytes ≤ length memory = omega (arith, size, room) in
    let kept : length (with_bytes memory address bytes) ≡ length memory = with_bytes-length memory address bytes fits in
    let stands : take count (drop address (with_bytes memory address bytes)) ≡ bytes =
    subst (λ n. take n (drop address (with_bytes memory address bytes)) ≡ bytes) size (written memory address bytes fits) in
    let inside : nat_le (address + count) (length (with_bytes memory address bytes)) ≡ true = grind (arith, kept, room) in
    rw inside (ap (λ bs. Some (number_of (in_order order bs))) stands
    ∙ ap (λ bs. Some (number_of bs)) (in_order_twice order (digits_of count word))
    ∙ ap Some (number_of-digits count word))
