-- Code at addresses: placings of its lines, and to which line a word leads.
use Rattle.std.specs.Prelude.{ℕ, zero, suc, ◌≡◌, ◌<◌, ◌≤◌, ◌%◌, ◌⊎◌, length, Option, None, Some, Bool, ◌&&◌, if◌then◌else◌, nat_eq, nat_lt, false}
use Rattle.qc_descr.specs.declared.description.Description.{Description}
use Rattle.qc_runs.specs.Placing.{IsPlacing, Lines}
use Rattle.qc_meaning.specs.Code.{Flat, entry_at, first_at, solid_at}

abbrev pub lines_of : Description → Flat → Lines
lines_of d x = record { count = length x.lines; solid = solid_at x; first = first_at x; entry = entry_at d.link x }

-- The addresses of code: those of a placing, each a multiple of the alignment and inside the code region; labels after the last
-- other line may stand at its end. The address after the last line is that of the place behind it.
pub record IsPlacingOf (d : Description) (x : Flat) (at : ℕ → ℕ) : Type 0 where
  pub placing : IsPlacing (lines_of d x) at
  pub aligned : (k : ℕ) → k < length x.lines → at k % d.align ≡ 0
  pub inside : (k : ℕ) → k < length x.lines →
      (at k < d.code_end) ⊎ ((at k ≡ d.code_end) × ((j : ℕ) → k ≤ j → j < length x.lines → solid_at x j ≡ false))
  pub after : (k : ℕ) → k < length x.lines → at k ≤ at (length x.lines)
  pub last : at (length x.lines) ≤ d.code_end

-- the last number below a bound that passes a test
abbrev pub last_where : (ℕ → Bool) → ℕ → Option ℕ
last_where test zero = None
last_where test (suc n) = if test n then Some n else last_where test n

-- the first number below a bound that passes a test, or the bound
abbrev pub first_where : (ℕ → Bool) → ℕ → ℕ
first_where test zero = 0
first_where test (suc n) = if nat_lt (first_where test n) n then first_where test n else (if test n then n else suc n)

abbrev pub or_first : ℕ → Option ℕ → ℕ
or_first first None = first
or_first first (Some last) = last

abbrev pub has_address : (ℕ → ℕ) → ℕ → ℕ → Bool
has_address at word k = nat_eq (at k) word

-- a procedure begins at the place, with this address
abbrev pub begins_at : Flat → (ℕ → ℕ) → ℕ → ℕ → Bool
begins_at x at word k = first_at x k && nat_eq (at k) word

-- The place to which a word leads: the first line of the last procedure that begins at that address; where none does, the
-- first line that has it; and the number of lines where no line has it.
abbrev pub landing : Flat → (ℕ → ℕ) → ℕ → ℕ
landing x at word =
    or_first (first_where (has_address at word) (length x.lines)) (last_where (begins_at x at word) (length x.lines))
