-- The laws of words and of typed terms that equations stand on, as one fact.
use Rattle.std.specs.Prelude.{ℕ, ◌≡◌, ◌≤◌, ◌<◌, ◌-◌, ◌^◌}
use Rattle.qc_words.specs.declared.operator.Op.TheVariants.{Add, Sub, Mul, Neg, And, Or, Xor, Com, Shl, Shra, Eq, Ne, Lt, Ge, Ltu, Geu, Sx, Zx, Slice}
use Rattle.qc_words.specs.Operators.{result_of}
use Rattle.qc_words.specs.Width.{IsWidth}

-- operands that leave the word as it is
pub record NeutralOperands : Type 0 where
  pub add : (w a : ℕ) → a < 2 ^ w → result_of Add w a 0 ≡ a
  pub or : (w a : ℕ) → result_of Or w a 0 ≡ a
  pub xor : (w a : ℕ) → result_of Xor w a 0 ≡ a
  pub shl : (w a : ℕ) → a < 2 ^ w → result_of Shl w a 0 ≡ a
  pub and : (w a : ℕ) → a < 2 ^ w → result_of And w a (2 ^ w - 1) ≡ a

-- operands that change places, and sums of three words
pub record Swaps : Type 0 where
  pub add : (w a b : ℕ) → result_of Add w a b ≡ result_of Add w b a
  pub mul : (w a b : ℕ) → result_of Mul w a b ≡ result_of Mul w b a
  pub and : (w a b : ℕ) → result_of And w a b ≡ result_of And w b a
  pub or : (w a b : ℕ) → result_of Or w a b ≡ result_of Or w b a
  pub xor : (w a b : ℕ) → result_of Xor w a b ≡ result_of Xor w b a
  pub equal : (w a b : ℕ) → result_of Eq w a b ≡ result_of Eq w b a
  pub unequal : (w a b : ℕ) → result_of Ne w a b ≡ result_of Ne w b a
  pub regrouped : (w a b c : ℕ) → result_of Add w (result_of Add w a b) c ≡ result_of Add w a (result_of Add w b c)

-- negations, complements, sums and differences by each other
pub record Complements : Type 0 where
  pub subtraction : (w a b c : ℕ) → a < 2 ^ w → result_of Sub w a b ≡ result_of Add w a (result_of Neg w b c)
  pub negation : (w a b c : ℕ) → a < 2 ^ w → result_of Neg w a b ≡ result_of Add w (result_of Com w a c) 1
  pub from_zero : (w a b : ℕ) → a < 2 ^ w → result_of Neg w a b ≡ result_of Sub w 0 a
  pub complement : (w a b c : ℕ) → a < 2 ^ w → result_of Com w a b ≡ result_of Sub w (result_of Neg w a c) 1
  pub from_ones : (w a b : ℕ) → a < 2 ^ w → result_of Com w a b ≡ result_of Sub w (2 ^ w - 1) a
  pub with_ones : (w a b : ℕ) → a < 2 ^ w → result_of Com w a b ≡ result_of Xor w a (2 ^ w - 1)
  pub difference : (w a b c d : ℕ) → a < 2 ^ w → b < 2 ^ w →
      result_of Sub w a b ≡ result_of Com w (result_of Add w (result_of Com w a c) b) d
  pub sum : (w a b c : ℕ) → a < 2 ^ w → b < 2 ^ w → result_of Add w a b ≡ result_of Sub w a (result_of Neg w b c)

-- the operators of logic by others
pub record Logic : Type 0 where
  pub xor : (w a b : ℕ) → a < 2 ^ w → b < 2 ^ w →
      result_of Xor w a b ≡ result_of Sub w (result_of Or w a b) (result_of And w a b)
  pub or : (w a b : ℕ) → a < 2 ^ w → b < 2 ^ w →
      result_of Or w a b ≡ result_of Add w (result_of Xor w a b) (result_of And w a b)
  pub and_of_complements : (w a b c d : ℕ) → a < 2 ^ w → b < 2 ^ w →
      result_of And w a b ≡ result_of Com w (result_of Or w (result_of Com w a c) (result_of Com w b c)) d
  pub or_of_complements : (w a b c d : ℕ) → a < 2 ^ w → b < 2 ^ w →
      result_of Or w a b ≡ result_of Com w (result_of And w (result_of Com w a c) (result_of Com w b c)) d

-- comparisons by others
pub record Comparisons : Type 0 where
  pub equal : (w a b : ℕ) → result_of Eq w a b ≡ result_of Ltu w (result_of Xor w a b) 1
  pub unequal : (w a b : ℕ) → result_of Ne w a b ≡ result_of Ltu w 0 (result_of Xor w a b)
  pub signed : (w a b : ℕ) → IsWidth w → a < 2 ^ w → b < 2 ^ w →
      result_of Lt w a b ≡ result_of Ltu w (result_of Xor w a (2 ^ (w - 1))) (result_of Xor w b (2 ^ (w - 1)))
  pub unsigned : (w a b : ℕ) → IsWidth w → a < 2 ^ w → b < 2 ^ w →
      result_of Ltu w a b ≡ result_of Lt w (result_of Xor w a (2 ^ (w - 1))) (result_of Xor w b (2 ^ (w - 1)))
  pub eq_ne : (w a b c : ℕ) → result_of Eq w a b ≡ result_of Com 1 (result_of Ne w a b) c
  pub ne_eq : (w a b c : ℕ) → result_of Ne w a b ≡ result_of Com 1 (result_of Eq w a b) c
  pub lt_ge : (w a b c : ℕ) → result_of Lt w a b ≡ result_of Com 1 (result_of Ge w a b) c
  pub ge_lt : (w a b c : ℕ) → result_of Ge w a b ≡ result_of Com 1 (result_of Lt w a b) c
  pub ltu_geu : (w a b c : ℕ) → result_of Ltu w a b ≡ result_of Com 1 (result_of Geu w a b) c
  pub geu_ltu : (w a b c : ℕ) → result_of Geu w a b ≡ result_of Com 1 (result_of Ltu w a b) c

-- a word by its low bits and the others
pub record Slices : Type 0 where
  pub joined : (m w a c : ℕ) → m < w → a < 2 ^ w →
      result_of Or w (result_of Shl w (result_of (Slice m (w - m)) w a c) m) (result_of (Slice 0 m) w a c) ≡ a
  pub summed : (m w a c : ℕ) → 1 ≤ m → m < w → a < 2 ^ w →
      let low = result_of (Sx w) m (result_of (Slice 0 m) w a c) c in
      result_of Add w (result_of Shl w (result_of (Slice m (w - m)) w (result_of Sub w a low) c) m) low ≡ a
  pub masked : (m w a c : ℕ) → result_of (Zx w) m (result_of (Slice 0 m) w a c) c ≡ result_of And w a (2 ^ m - 1)
  pub shifted : (m w a c : ℕ) → 1 ≤ m → m ≤ w →
      result_of (Sx w) m (result_of (Slice 0 m) w a c) c ≡ result_of Shra w (result_of Shl w a (w - m)) (w - m)

pub record WordLaws : Type 0 where
  pub neutral : NeutralOperands
  pub swaps : Swaps
  pub complements : Complements
  pub logic : Logic
  pub comparisons : Comparisons
  pub slices : Slices
