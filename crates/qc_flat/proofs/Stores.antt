-- The bytes of a word written one after another, from either end.
use Rattle.std.proofs.Common.{◌≡◌, ◌∙◌, ℕ, zero, suc, ◌+◌, ◌-◌, ◌/◌, ◌%◌, ◌<◌, ◌≤◌, List, [], ◌∷◌, ◌++◌, take, drop, length, reverse, slice_set, refl, sym, ap, arith}
use Rattle.std.proofs.lemmas.List.{append_assoc, drop-set, drop-set-lt, length-append, length-reverse, reverse-append, take-append-drop, take-set-le, take_more_set}
use Rattle.qc_terms.specs.Memory.{digits_of, with_bytes}

digits_more : (count word : ℕ) → 0 < count → digits_of count word ≡ word % 256 ∷ digits_of (count - 1) (word / 256)
unfolding digits_of
digits_more zero word some = absurd (omega arith)
digits_more (suc count) word some =
    let before : suc count - 1 ≡ count = omega arith in
    ap (λ n. word % 256 ∷ digits_of n (word / 256)) (sym before)

digits-length : (count word : ℕ) → length (digits_of count word) ≡ count
unfolding digits_of
digits-length zero word = refl
digits-length (suc count) word = let e = digits-length count (word / 256) in omega (arith, e)

-- nothing is written
pub none_written : (memory bytes : List ℕ) (address : ℕ) → bytes ≡ [] → memory ≡ with_bytes memory address bytes
none_written memory bytes address none =
    let start : address + 0 ≡ address = omega arith in
    sym (ap (with_bytes memory address) none ∙ ap (λ n. take address memory ++ drop n memory) start ∙ take-append-drop address memory)

pub no_digits : (count word : ℕ) → count ≤ 0 → digits_of count word ≡ []
unfolding digits_of
no_digits zero word none = refl
no_digits (suc count) word none = absurd (omega arith)

-- the least significant byte, and then the others after it
low_byte : (memory rest : List ℕ) (address digit : ℕ) → address < length memory →
    with_bytes (slice_set memory address digit) (address + 1) rest ≡ with_bytes memory address (digit ∷ rest)
low_byte memory rest address digit inside =
    let written = slice_set memory address digit in
    let end = address + 1 + length rest in
    let same_end : end ≡ address + suc (length rest) = omega arith in
    ap (λ front. front ++ (rest ++ drop end written)) (take_more_set memory address digit inside)
    ∙ ap (λ back. (take address memory ++ digit ∷ []) ++ (rest ++ back)) (drop-set-lt end memory address digit (omega arith))
    ∙ append_assoc (take address memory) (digit ∷ []) (rest ++ drop end memory)
    ∙ ap (λ n. take address memory ++ (digit ∷ (rest ++ drop n memory))) same_end

pub low_more : (memory after : List ℕ) (count address word : ℕ) → 0 < count → address + count ≤ length memory →
    after ≡ with_bytes (slice_set memory address (word % 256)) (address + 1) (digits_of (count - 1) (word / 256)) →
    after ≡ with_bytes memory address (digits_of count word)
low_more memory after count address word some room is =
    is ∙ low_byte memory (digits_of (count - 1) (word / 256)) address (word % 256) (omega arith)
    ∙ ap (with_bytes memory address) (sym (digits_more count word some))

-- the least significant byte last, and then the others before it
high_byte : (memory rest : List ℕ) (address count digit : ℕ) → length rest ≡ count → address + count < length memory →
    with_bytes (slice_set memory (address + count) digit) address rest ≡ with_bytes memory address (rest ++ digit ∷ [])
high_byte memory rest address count digit size inside =
    let written = slice_set memory (address + count) digit in
    let end : address + length rest ≡ address + count = omega arith in
    let past : address + count + 1 ≡ address + length (rest ++ digit ∷ []) = omega (arith, length-append rest (digit ∷ [])) in
    ap (λ front. front ++ (rest ++ drop (address + length rest) written)) (take-set-le address memory (address + count) digit (omega arith))
    ∙ ap (λ n. take address memory ++ (rest ++ drop n written)) end
    ∙ ap (λ back. take address memory ++ (rest ++ back)) (drop-set memory (address + count) digit inside)
    ∙ ap (λ back. take address memory ++ back) (sym (append_assoc rest (digit ∷ []) (drop (address + count + 1) memory)))
    ∙ ap (λ n. take address memory ++ ((rest ++ digit ∷ []) ++ drop n memory)) past

pub high_more : (memory after : List ℕ) (count address word : ℕ) → 0 < count → address + count ≤ length memory →
    after ≡ with_bytes (slice_set memory (address + (count - 1)) (word % 256)) address (reverse (digits_of (count - 1) (word / 256))) →
    after ≡ with_bytes memory address (reverse (digits_of count word))
high_more memory after count address word some room is =
    let rest = digits_of (count - 1) (word / 256) in
    let digit = word % 256 in
    let size : length (reverse rest) ≡ count - 1 = length-reverse rest ∙ digits-length (count - 1) (word / 256) in
    is ∙ high_byte memory (reverse rest) address (count - 1) digit size (omega arith)
    ∙ ap (with_bytes memory address) (sym (reverse-append (digit ∷ []) rest))
    ∙ ap (λ digits. with_bytes memory address (reverse digits)) (sym (digits_more count word some))
