-- How often a number can be halved.
use Rattle.std.proofs.Common.{ℕ, zero, suc, ◌≡◌, ◌+◌, ◌-◌, ◌/◌, ◌<◌, refl, arith}
use Rattle.std.proofs.lemmas.Bool.Decides.{nat_tests}
use Rattle.qc_cmmtype.specs.Types.{halvings}

pub halvings-none : (most : ℕ) → halvings most 0 ≡ 0
unfolding halvings
halvings-none zero = refl
halvings-none (suc most) = refl

halvings-suc : (most value : ℕ) → 0 < value → halvings (suc most) value ≡ suc (halvings most (value / 2))
unfolding halvings
halvings-suc most value h = grind (arith, nat_tests)

pub halvings-all : (value : ℕ) → halvings 0 value ≡ 0
unfolding halvings
halvings-all value = refl

-- one halving of the 65
pub halvings-more : (count rest : ℕ) → count < 65 → 0 < rest
    → halvings (65 - count) rest ≡ halvings (65 - (count + 1)) (rest / 2) + 1
halvings-more count rest within some =
    let e : 65 - count ≡ suc (65 - (count + 1)) = omega arith in
    rw e (rw (halvings-suc (65 - (count + 1)) rest some) (omega arith))

pub ruleset halving = (halvings-none, halvings-all, halvings-more)
