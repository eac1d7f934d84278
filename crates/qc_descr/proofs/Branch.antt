-- The worked example of coded addresses.
use Rattle.std.proofs.Common.{◌≡◌, ℕ, zero, suc, ◌<◌, ◌≤◌, ◌^◌, List, [], ◌∷◌, false, refl, subst, arith, lit<, lit≤}
use Rattle.std.specs.Int.{bit_at}
use Rattle.std.specs.List.{list_any}
use Rattle.std.proofs.Math.Nat.{lt_of_lt_of_le, pow-le-pow_right}
use Rattle.std.proofs.lemmas.Nat.Bits.{bit_at_above}
use Rattle.std.proofs.lemmas.Option.{same_Some}
use Rattle.qc_terms.specs.declared.state.Order.{Order}
use Rattle.qc_terms.specs.declared.state.Order.TheVariants.{Little, Big}
use Rattle.qc_descr.specs.declared.coding.Reach.TheVariants.{Relative}
use Rattle.qc_descr.specs.declared.description.Description.{Description}
use Rattle.qc_descr.specs.Coding.{is_piece}
use Rattle.qc_descr.specs.Encoding.{AreCodable, IsCodable, IsCodedBy, coded_bytes}
use Rattle.qc_descr.specs.Example.{branch, branch_coding}
use Rattle.qc_descr.specs.Valid.{IsCovered, all_below}

pub branch_is_covered : (d : Description) → 6 ≤ d.facts.word → IsCovered d branch
unfolding all_below
branch_is_covered d wide = record {
  some_token = lit≤ tt;
  few_tokens = lit≤ tt;
  tokens = refl;
  no_free_bit = refl;
  sizes = 6 ∷ [];
  dropped = 2 ∷ [];
  sized = ((lit≤ tt, wide, refl), lit≤ tt, tt);
  within = refl;
  once = refl;
}

forward_bytes : (order : Order) → 0x25 ∷ [] ≡ coded_bytes order branch_coding (8 ∷ [])
forward_bytes Little = refl
forward_bytes Big = refl

back_bytes : (order : Order) → 0xE5 ∷ [] ≡ coded_bytes order branch_coding (56 ∷ [])
back_bytes Little = refl
back_bytes Big = refl

forward_kept : (bit : ℕ) → list_any (is_piece 0 bit) branch_coding.bits ≡ false → bit_at 8 bit ≡ 0
forward_kept zero none = refl
forward_kept (suc zero) none = refl
forward_kept (suc (suc zero)) none = refl
forward_kept (suc (suc (suc zero))) none = cc
forward_kept (suc (suc (suc (suc n)))) none = bit_at_above 8 4 (suc (suc (suc (suc n)))) (lit< tt) (omega arith)

back_kept : (bit : ℕ) → list_any (is_piece 0 bit) branch_coding.bits ≡ false → bit_at 56 bit ≡ 0
back_kept zero none = refl
back_kept (suc zero) none = refl
back_kept (suc (suc zero)) none = refl
back_kept (suc (suc (suc zero))) none = cc
back_kept (suc (suc (suc (suc zero)))) none = cc
back_kept (suc (suc (suc (suc (suc zero))))) none = cc
back_kept (suc (suc (suc (suc (suc (suc n)))))) none =
    bit_at_above 56 6 (suc (suc (suc (suc (suc (suc n)))))) (lit< tt) (omega arith)

forward_codable : AreCodable branch_coding 100 (108 ∷ [])
forward_codable zero reach is =
    subst (λ r. IsCodable branch_coding.bits r 100 0 108) (same_Some _ _ is) (record { reached = (lit< tt, lit≤ tt); kept = forward_kept })
forward_codable (suc n) reach is = cc

back_codable : AreCodable branch_coding 100 (92 ∷ [])
back_codable zero reach is =
    subst (λ r. IsCodable branch_coding.bits r 100 0 92) (same_Some _ _ is) (record { reached = (lit< tt, lit≤ tt); kept = back_kept })
back_codable (suc n) reach is = cc

-- a small target is a word
small_target : (d : Description) (target : ℕ) → 8 ≤ d.facts.word → target < 256 → target < 2 ^ d.facts.word
small_target d target wide small =
    let least : 2 ^ 8 ≤ 2 ^ d.facts.word = pow-le-pow_right (omega arith) wide in
    lt_of_lt_of_le small least

pub branch_forward : (d : Description) → 8 ≤ d.facts.word → IsCodedBy d branch 100 (108 ∷ []) (0x25 ∷ [])
branch_forward d wide = record {
  in_range = (small_target d 108 wide (lit< tt), tt);
  codable = forward_codable;
  bytes_are = forward_bytes d.facts.order;
}

pub branch_back : (d : Description) → 8 ≤ d.facts.word → IsCodedBy d branch 100 (92 ∷ []) (0xE5 ∷ [])
branch_back d wide = record {
  in_range = (small_target d 92 wide (lit< tt), tt);
  codable = back_codable;
  bytes_are = back_bytes d.facts.order;
}

pub branch_too_far : (d : Description) (bytes : List ℕ) → IsCodedBy d branch 100 (132 ∷ []) bytes → ⊥
branch_too_far d bytes coded = omega (arith, (coded.codable 0 (Relative 6) refl).reached.0)

pub branch_unaligned : (d : Description) (bytes : List ℕ) → IsCodedBy d branch 100 (109 ∷ []) bytes → ⊥
branch_unaligned d bytes coded =
    let one : ◌≡◌ {A = ℕ} 1 0 = (coded.codable 0 (Relative 6) refl).kept 0 refl in
    omega (arith, one)
