-- The numbers that words of w bits stand for, and the words for numbers.
use Rattle.std.specs.Prelude.{ℕ, ◌-◌, ◌^◌, ℤ, pos, neg_ℤ, ◌-ℤ◌, ◌≤ℤ◌, ◌<ℤ◌, nat_lt, unsigned_abs, if◌then◌else◌}
use Rattle.std.specs.Int.{int_rem_euclid}

-- the signed number of a word: a where a is below 2 ^ (w - 1), and a - 2 ^ w from there on
unfoldable pub signed_of : ℕ → ℕ → ℤ
signed_of w a = (if nat_lt a (2 ^ (w - 1)) then pos a else (pos a -ℤ pos (2 ^ w)))

-- the word for a number: the number modulo 2 ^ w, which is never negative
unfoldable pub word_of : ℕ → ℤ → ℕ
word_of w z = unsigned_abs (int_rem_euclid z (pos (2 ^ w)))

-- z is the signed number of some word: it is from -2 ^ (w - 1) to 2 ^ (w - 1) - 1
pub record FitsSignedWord (w : ℕ) (z : ℤ) : Type 0 where
  pub least : neg_ℤ (pos (2 ^ (w - 1))) ≤ℤ z
  pub greatest : z <ℤ pos (2 ^ (w - 1))
