-- Where the bits of operands stand: one step of each recursion on a number.
use Rattle.std.proofs.Common.{◌≡◌, ◌≢◌, ℕ, zero, suc, ◌+◌, ◌-◌, ◌<◌, ◌≤◌, List, length, map, Bool, true, false, if◌then◌else◌, None, refl, slice_index, add-one, sub-one, inl, inr}
use Rattle.std.proofs.lemmas.Bool.{cases_Bool}
use Rattle.std.proofs.lemmas.List.{get_or_past, length-map}
use Rattle.std.specs.List.{list_any}
use Rattle.qc_descr.specs.declared.coding.Bit.{Bit}
use Rattle.qc_descr.specs.declared.description.Space.{Space}
use Rattle.qc_descr.specs.Coding.{is_piece}
use Rattle.qc_descr.specs.CodingFaults.{exponent_below, missing_from}
use Rattle.qc_descr.specs.Law.Bits.{below_of_all}
use Rattle.qc_descr.specs.Valid.{all_below}

-- a space that isn't there has no number of cells that is a power of 2
pub no_cells : (spaces : List Space) (space : ℕ) → length spaces ≤ space → exponent_below 7 (slice_index (map (λ s. s.cells) spaces) space) ≡ None
unfolding exponent_below
no_cells spaces space h =
    let past : slice_index (map (λ s. s.cells) spaces) space ≡ 0 = get_or_past (map (λ s. s.cells) spaces) space 0 (simp length-map h) in
    rw past refl

pub missing_step : (operand : ℕ) (bits : List Bit) (from count : ℕ) → count ≢ 0 →
    missing_from operand bits from count
    ≡ (if list_any (is_piece operand from) bits then 0 else missing_from operand bits (from + 1) (count - 1) + 1)
unfolding missing_from
missing_step operand bits from zero h = absurd (h refl)
missing_step operand bits from (suc n) h = simp (add-one, sub-one)

pub missing_none : (operand : ℕ) (bits : List Bit) (from : ℕ) → missing_from operand bits from 0 ≡ 0
unfolding missing_from
missing_none operand bits from = refl

pub below_none : (test : ℕ → Bool) → all_below 0 test ≡ true
unfolding all_below
below_none test = refl

pub below_more : (test : ℕ → Bool) (n : ℕ) → all_below n test ≡ true → test n ≡ true → all_below (n + 1) test ≡ true
unfolding all_below
below_more test n h e = rw add-one (rw e h)

pub below_fails : (test : ℕ → Bool) (n i : ℕ) → i < n → test i ≡ false → all_below n test ≡ false
below_fails test n i h e = elim (cases_Bool (all_below n test)) [
  | inl all ↦ let t : test i ≡ true = below_of_all n test i all h in cc
  | inr fails ↦ fails
]
