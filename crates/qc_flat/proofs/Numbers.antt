-- Numbers of bytes, and the bits that they have.
use Rattle.std.proofs.Common.{◌≡◌, ◌∙◌, ℕ, zero, suc, ◌+◌, ◌*◌, ◌<◌, ◌≤◌, ◌^◌, List, [], ◌∷◌, get_or, length, reverse, refl, sym, ap, subst, arith}
use Rattle.std.proofs.Math.Nat.{pow-suc, pow-le-pow_right}
use Rattle.qc_terms.specs.Memory.{number_of}

-- four bytes, and four in the other order
pub four_low : (bytes : List ℕ) → length bytes ≡ 4 →
    number_of bytes ≡ get_or bytes 0 0 + 256 * (get_or bytes 1 0 + 256 * (get_or bytes 2 0 + 256 * get_or bytes 3 0))
unfolding number_of
four_low (a ∷ b ∷ c ∷ d ∷ []) size =
    let last : d + 0 ≡ d = omega arith in ap (λ n. a + 256 * (b + 256 * (c + 256 * n))) last
four_low [] size = absurd (omega arith)
four_low (a ∷ []) size = absurd (omega arith)
four_low (a ∷ b ∷ []) size = absurd (omega arith)
four_low (a ∷ b ∷ c ∷ []) size = absurd (omega arith)
four_low (a ∷ b ∷ c ∷ d ∷ e ∷ more) size = absurd (omega arith)

pub four_high : (bytes : List ℕ) → length bytes ≡ 4 →
    number_of (reverse bytes) ≡ get_or bytes 3 0 + 256 * (get_or bytes 2 0 + 256 * (get_or bytes 1 0 + 256 * get_or bytes 0 0))
unfolding number_of
four_high (a ∷ b ∷ c ∷ d ∷ []) size =
    let last : a + 0 ≡ a = omega arith in ap (λ n. d + 256 * (c + 256 * (b + 256 * n))) last
four_high [] size = absurd (omega arith)
four_high (a ∷ []) size = absurd (omega arith)
four_high (a ∷ b ∷ []) size = absurd (omega arith)
four_high (a ∷ b ∷ c ∷ []) size = absurd (omega arith)
four_high (a ∷ b ∷ c ∷ d ∷ e ∷ more) size = absurd (omega arith)

-- a number of so many bytes, and one byte more
pub room_for_byte : (number count : ℕ) → number < 256 ^ count → count + 1 ≤ 8 → number < 2 ^ 56
room_for_byte number count below few =
    let most : 256 ^ count ≤ 256 ^ 7 = pow-le-pow_right (omega arith) {i = count} {j = 7} (omega (arith, few)) in
    omega (arith, below, most)

-- a byte has eight bits
pub byte_bits : (count : ℕ) → 256 ^ count ≡ 2 ^ (8 * count)
byte_bits zero = refl
byte_bits (suc count) =
    let more : 8 * suc count ≡ suc (suc (suc (suc (suc (suc (suc (suc (8 * count)))))))) = omega arith in
    let bits = 8 * count in
    let whole : 2 ^ suc (suc (suc (suc (suc (suc (suc (suc bits))))))) ≡ 2 ^ bits * 256 =
    omega (
      arith,
      pow-suc 2 bits,
      pow-suc 2 (suc bits),
      pow-suc 2 (suc (suc bits)),
      pow-suc 2 (suc (suc (suc bits))),
      pow-suc 2 (suc (suc (suc (suc bits)))),
      pow-suc 2 (suc (suc (suc (suc (suc bits))))),
      pow-suc 2 (suc (suc (suc (suc (suc (suc bits)))))),
      pow-suc 2 (suc (suc (suc (suc (suc (suc (suc bits))))))),
    ) in
    pow-suc 256 count ∙ ap (λ n. n * 256) (byte_bits count) ∙ sym whole ∙ ap (λ n. 2 ^ n) (sym more)

-- a word that was loaded has its bytes' bits
pub loaded_fits : (word count width : ℕ) → word < 256 ^ count → 8 * count ≡ width → word < 2 ^ width
loaded_fits word count width below same = subst (λ n. word < n) (byte_bits count ∙ ap (λ n. 2 ^ n) same) below
