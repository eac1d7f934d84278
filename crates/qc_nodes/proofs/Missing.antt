-- Bits that an address leaves out: one step of their count, and what they are worth.
use Rattle.std.proofs.Common.{arith, ◌≡◌, ◌≢◌, ℕ, zero, suc, ◌+◌, ◌-◌, ◌%◌, ◌^◌, ◌<◌, ◌≤◌, List, if◌then◌else◌, nat_eq, refl, ap, add-one, sub-one}
use Rattle.std.proofs.Math.Nat.{mod-eq_of_lt}
use Rattle.std.proofs.Math.Pow.{pow_mono}
use Rattle.std.specs.List.{list_any}
use Rattle.qc_descr.specs.declared.coding.Bit.{Bit}
use Rattle.qc_descr.specs.Coding.{is_piece}
use Rattle.qc_descr.specs.CodingFaults.{missing_from}

pub missing_step : (operand : ℕ) (bits : List Bit) (from count : ℕ) → count ≢ 0 →
    missing_from operand bits from count
    ≡ (if list_any (is_piece operand from) bits then 0 else missing_from operand bits (from + 1) (count - 1) + 1)
unfolding missing_from
missing_step operand bits from zero h = absurd (h refl)
missing_step operand bits from (suc n) h = simp (add-one, sub-one)

pub missing_none : (operand : ℕ) (bits : List Bit) (from : ℕ) → missing_from operand bits from 0 ≡ 0
unfolding missing_from
missing_none operand bits from = refl

-- a word is no multiple of what a higher bit is worth, unless it is 0
pub multiple_of_high : (number bit : ℕ) → number < 2 ^ 64 → 64 ≤ bit → nat_eq (number % 2 ^ bit) 0 ≡ nat_eq number 0
multiple_of_high number bit word high =
    let most : 2 ^ 64 ≤ 2 ^ bit = pow_mono high in
    let below : number < 2 ^ bit = omega arith in
    ap (λ n. nat_eq n 0) (mod-eq_of_lt below)
