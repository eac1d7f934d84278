-- Of powers of two.
use Rattle.std.proofs.Common.{◌≡◌, ◌∙◌, ℕ, zero, suc, ◌-◌, ◌*◌, ◌<◌, ◌≤◌, ◌^◌, ap, arith}
use Rattle.std.proofs.Math.Nat.{pow-succ'}

-- a number is less than two to its power
pub below_power : (n : ℕ) → n < 2 ^ n
below_power zero = omega arith
below_power (suc n) = omega (arith, below_power n, pow-succ' 2 n)

-- a power is twice the one before
pub twice_half : (n : ℕ) → 1 ≤ n → 2 ^ n ≡ 2 * 2 ^ (n - 1)
twice_half n some =
    let step : n ≡ suc (n - 1) = omega arith in
    ap (λ k. 2 ^ k) step ∙ pow-succ' 2 (n - 1)
