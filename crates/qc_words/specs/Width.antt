-- The widths of words.
use Rattle.std.specs.Prelude.{ℕ, ◌≤◌}

-- a number of bits that a word may have
abbrev pub IsWidth : ℕ → Type 0
IsWidth n = (1 ≤ n) × (n ≤ 64)
