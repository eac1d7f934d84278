-- The places of the bytes of a coding in memory.
use Rattle.std.proofs.Common.{◌≡◌, ℕ, zero, suc, ◌+◌, ◌-◌, ◌*◌, ◌/◌, ◌<◌, ◌≤◌, List, [], ◌∷◌, ◌++◌, length, take, drop, reverse, sum, get_or, Option, Some, IsTrue, refl, sym, ◌∙◌, ap, subst, arith}
use Rattle.std.specs.List.{slice_get, list_all}
use Rattle.std.proofs.lemmas.Bool.{and_parts}
use Rattle.std.proofs.lemmas.Grind.{common_steps}
use Rattle.std.proofs.lemmas.Option.{slice_get-get_or, get_or_from_slice_get}
use Rattle.std.proofs.lemmas.List.{drop-drop, get_or-reverse, length-reverse, length-drop, drop_more}
use Rattle.qc_lists.specs.Law.Lists.{slice_get-append_left, slice_get-append_right}
use Rattle.qc_terms.specs.declared.state.Order.{Order}
use Rattle.qc_terms.specs.declared.state.Order.TheVariants.{Little, Big}
use Rattle.qc_descr.specs.declared.coding.Bit.{Bit}
use Rattle.qc_descr.specs.Coding.{bytes_of_bits, token_bytes, tokens_bytes}
use Rattle.qc_descr.specs.Valid.{is_token}
use Rattle.std.proofs.lemmas.List.Sums.{sum_by-cons}

pub length-bytes_of_bits : (n : ℕ) (bits : List Bit) → length (bytes_of_bits n bits) ≡ n
length-bytes_of_bits zero bits = refl
length-bytes_of_bits (suc n) bits = ap suc (length-bytes_of_bits n (drop 8 bits))

-- the byte at a place of a row of bytes
pub byte_at : (n k : ℕ) (bits : List Bit) → k < n → slice_get (bytes_of_bits n bits) k ≡ Some (take 8 (drop (8 * k) bits))
byte_at zero k bits h = absurd (omega arith)
byte_at (suc n) zero bits h = refl
byte_at (suc n) (suc k) bits h =
    let e : 8 + 8 * k ≡ 8 * suc k = omega arith in
    byte_at n k (drop 8 bits) (omega arith)
    ∙ ap (λ d. Some (take 8 d)) (drop-drop (8 * k) 8 bits ∙ ap (λ m. drop m bits) e)

-- from the row's last byte backwards
pub byte_at_reverse : (n k : ℕ) (bits : List Bit) → k < n →
    slice_get (reverse (bytes_of_bits n bits)) k ≡ Some (take 8 (drop (8 * (n - 1 - k)) bits))
byte_at_reverse n k bits h =
    let bytes : List (List Bit) = bytes_of_bits n bits in
    let count : length bytes ≡ n = length-bytes_of_bits n bits in
    let within : k < length bytes = omega arith in
    let within_reverse : k < length (reverse bytes) = omega (arith, length-reverse bytes) in
    let place : length bytes - 1 - k ≡ n - 1 - k = ap (λ m. m - 1 - k) count in
    slice_get-get_or (reverse bytes) k [] within_reverse
    ∙ ap Some (get_or-reverse bytes k [] within ∙ ap (λ m. get_or bytes m []) place
    ∙ get_or_from_slice_get bytes (n - 1 - k) _ [] (byte_at n (n - 1 - k) bits (omega arith)))

pub length-token_bytes : (order : Order) (size : ℕ) (bits : List Bit) → length (token_bytes order size bits) ≡ size / 8
length-token_bytes Little size bits = length-bytes_of_bits (size / 8) bits
length-token_bytes Big size bits = length-reverse (bytes_of_bits (size / 8) bits) ∙ length-bytes_of_bits (size / 8) bits

-- the bytes of the first token, and those of the others
pub first_token : (order : Order) (size : ℕ) (sizes : List ℕ) (bits : List Bit) (k : ℕ) → k < size / 8 →
    slice_get (tokens_bytes order (size ∷ sizes) bits) k ≡ slice_get (token_bytes order size bits) k
first_token order size sizes bits k h =
    slice_get-append_left (token_bytes order size bits) (tokens_bytes order sizes (drop size bits)) k
    (omega (arith, length-token_bytes order size bits))

pub other_tokens : (order : Order) (size : ℕ) (sizes : List ℕ) (bits : List Bit) (k : ℕ) → size / 8 ≤ k →
    slice_get (tokens_bytes order (size ∷ sizes) bits) k ≡ slice_get (tokens_bytes order sizes (drop size bits)) (k - size / 8)
other_tokens order size sizes bits k h =
    let bytes : List (List Bit) = token_bytes order size bits in
    let rest : List (List Bit) = tokens_bytes order sizes (drop size bits) in
    let e : k ≡ length bytes + (k - size / 8) = omega (arith, length-token_bytes order size bits) in
    ap (slice_get (bytes ++ rest)) e ∙ slice_get-append_right bytes rest (k - size / 8)

-- a token has whole bytes
pub token_size : (size : ℕ) → IsTrue (is_token size) → (8 * (size / 8) ≡ size) × (8 ≤ size) × (size ≤ 32)
token_size size h = grind (arith, common_steps)

-- a token's byte, from where its lowest byte stands
pub little_byte : (order : Order) (bytes place from : ℕ) (bits : List Bit) → order ≡ Little → from ≡ place → place < bytes →
    slice_get (token_bytes order (8 * bytes) bits) place ≡ Some (take (8 * from + 8 - 8 * from) (drop (8 * from) bits))
little_byte order bytes place from bits o f h =
    let count : 8 * bytes / 8 ≡ bytes = omega arith in
    let eight : 8 ≡ 8 * from + 8 - 8 * from = omega arith in
    rw o (rw f (ap (λ n. slice_get (bytes_of_bits n bits) place) count ∙ byte_at bytes place bits h
    ∙ ap (λ n. Some (take n (drop (8 * place) bits))) (rw f at eight)))

pub big_byte : (order : Order) (bytes place from : ℕ) (bits : List Bit) → order ≡ Big → from ≡ bytes - 1 - place → place < bytes →
    slice_get (token_bytes order (8 * bytes) bits) place ≡ Some (take (8 * from + 8 - 8 * from) (drop (8 * from) bits))
big_byte order bytes place from bits o f h =
    let count : 8 * bytes / 8 ≡ bytes = omega arith in
    let eight : 8 ≡ 8 * (bytes - 1 - place) + 8 - 8 * (bytes - 1 - place) = omega arith in
    rw o (rw f (ap (λ n. slice_get (reverse (bytes_of_bits n bits)) place) count ∙ byte_at_reverse bytes place bits h
    ∙ ap (λ n. Some (take n (drop (8 * (bytes - 1 - place)) bits))) eight))

-- The byte that is looked for is at this place of these tokens.
pub record StandsAt (order : Order) (tokens : List ℕ) (bits : List Bit) (place : ℕ) (byte : Option (List Bit)) : Type 0 where
  pub tokens_fit : IsTrue (list_all is_token tokens)
  pub bits_fit : length bits ≡ sum tokens
  pub within : place < sum tokens / 8
  pub same : slice_get (tokens_bytes order tokens bits) place ≡ byte

-- it is one of the first token's
pub in_first : (order : Order) (size : ℕ) (sizes : List ℕ) (bits : List Bit) (place : ℕ) (byte : Option (List Bit)) →
    StandsAt order (size ∷ sizes) bits place byte → place < size / 8 → slice_get (token_bytes order (8 * (size / 8)) bits) place ≡ byte
in_first order size sizes bits place byte at h =
    let fits : (IsTrue (is_token size)) × (IsTrue (list_all is_token sizes)) = and_parts _ _ at.tokens_fit in
    let whole : 8 * (size / 8) ≡ size = (token_size size fits.0).0 in
    ap (λ n. slice_get (token_bytes order n bits) place) whole
    ∙ sym (first_token order size sizes bits place h) ∙ at.same

-- it is one of the others'
pub in_others : (order : Order) (size : ℕ) (sizes : List ℕ) (bits : List Bit) (place : ℕ) (byte : Option (List Bit)) →
    StandsAt order (size ∷ sizes) bits place byte → size / 8 ≤ place →
    StandsAt order sizes (drop (8 * (size / 8)) bits) (place - size / 8) byte
in_others order size sizes bits place byte at h =
    let fits : (IsTrue (is_token size)) × (IsTrue (list_all is_token sizes)) = and_parts _ _ at.tokens_fit in
    let whole : 8 * (size / 8) ≡ size = (token_size size fits.0).0 in
    let total : sum (size ∷ sizes) ≡ size + sum sizes = sum_by-cons (λ n. n) size sizes in
    let count : length bits ≡ sum (size ∷ sizes) = at.bits_fit in
    let within : place < sum (size ∷ sizes) / 8 = at.within in
    record {
      tokens_fit = fits.1;
      bits_fit = length-drop (8 * (size / 8)) bits ∙ omega arith;
      within = omega arith;
      same = ap (λ n. slice_get (tokens_bytes order sizes (drop n bits)) (place - size / 8)) whole
          ∙ sym (other_tokens order size sizes bits place h) ∙ at.same;
    }

-- a walk over the tokens by their index, n being the token's number of bytes
pub found : (order : Order) (tokens : List ℕ) (i n : ℕ) (bits : List Bit) (place : ℕ) (byte : Option (List Bit)) → i < length tokens →
    n ≡ get_or tokens i 0 / 8 → StandsAt order (drop i tokens) bits place byte → place < n →
    slice_get (token_bytes order (8 * n) bits) place ≡ byte
found order tokens i n bits place byte h e at below =
    let here : StandsAt order (get_or tokens i 0 ∷ drop (i + 1) tokens) bits place byte =
    subst (λ ts. StandsAt order ts bits place byte) (drop_more tokens i 0 h) at in
    rw e (in_first order (get_or tokens i 0) (drop (i + 1) tokens) bits place byte here (omega arith))

pub passed : (order : Order) (tokens : List ℕ) (i n : ℕ) (bits rest : List Bit) (place : ℕ) (byte : Option (List Bit)) → i < length tokens →
    n ≡ get_or tokens i 0 / 8 → StandsAt order (drop i tokens) bits place byte → n ≤ place → rest ≡ drop (8 * n) bits →
    StandsAt order (drop (i + 1) tokens) rest (place - n) byte
passed order tokens i n bits rest place byte h e at below r =
    let here : StandsAt order (get_or tokens i 0 ∷ drop (i + 1) tokens) bits place byte =
    subst (λ ts. StandsAt order ts bits place byte) (drop_more tokens i 0 h) at in
    rw r (rw e (in_others order (get_or tokens i 0) (drop (i + 1) tokens) bits place byte here (omega arith)))
