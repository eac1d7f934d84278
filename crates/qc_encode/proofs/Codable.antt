-- When an operand can be coded.
use Rattle.std.proofs.Common.{◌≡◌, ℕ, ◌+◌, ◌<◌, ◌^◌, max, min, List, [], ◌∷◌, Bool, true, false, ◌||◌, cond, sym, ◌∙◌, ap, subst, arith, inl, inr, bit_and, nat_eq, nat_lt, Some, ◌++◌, length, take, drop, set, get_or}
use Rattle.std.specs.Prelude.{slice_index}
use Rattle.std.specs.Int.{bit_at}
use Rattle.std.specs.List.{list_any, slice_get}
use Rattle.std.proofs.lemmas.Bool.{cases_Bool, cases_eq, cases_lt, eq-eqb, le-ltb, lt-ltb, ne_eqb}
use Rattle.std.proofs.lemmas.Nat.Bits.{bit_at-lt, bit_at-pow_other, bit_at-pow_same, bit_at-zero, bit_at_above, bit_at_and, bit_at_or, same_from_bits}
use Rattle.qc_descr.specs.declared.coding.Bit.{Bit}
use Rattle.qc_descr.specs.declared.coding.Bit.TheVariants.{Fixed, Piece}
use Rattle.qc_descr.specs.declared.coding.Reach.{Reach}
use Rattle.qc_descr.specs.Coding.{is_piece}
use Rattle.qc_descr.specs.Encoding.{IsCodable}
use Rattle.qc_descr.specs.Reach.{IsReached, coded_operands, coded_value}
use Rattle.qc_descr.specs.Law.Operands.{coded_at, length-coded}
use Rattle.std.proofs.lemmas.Option.{slice_get-get_or}
use Rattle.qc_encode.proofs.Written.{written_more}
use Rattle.qc_encode.specs.Inner.PlacedBits.{place_of, placed_bits}

-- a bit of a place
place_bit_named : (place bit : ℕ) → bit < 64 → bit_at (cond (nat_lt place 64) (2 ^ place) 0) bit ≡ cond (nat_eq place bit) 1 0
place_bit_named place bit h =
    elim (cases_eq place bit) [
      | inl same ↦
          ap (λ t. bit_at (cond t (2 ^ place) 0) bit) (lt-ltb place 64 (omega arith))
          ∙ subst (λ b. bit_at (2 ^ place) b ≡ 1) same (bit_at-pow_same place)
          ∙ ap (λ t. cond t 1 0) (sym (eq-eqb place bit same))
      | inr other ↦ elim (cases_lt place 64) [
        | inl small ↦
            ap (λ t. bit_at (cond t (2 ^ place) 0) bit) (lt-ltb place 64 small)
            ∙ bit_at-pow_other place bit (λ e. other (sym e)) ∙ ap (λ t. cond t 1 0) (sym (ne_eqb place bit other))
        | inr large ↦
            ap (λ t. bit_at (cond t (2 ^ place) 0) bit) (le-ltb place 64 large)
            ∙ bit_at-zero bit ∙ ap (λ t. cond t 1 0) (sym (ne_eqb place bit other))
      ]
    ]

place_bit : (operand bit : ℕ) (b : Bit) → bit < 64 → bit_at (place_of operand b) bit ≡ cond (is_piece operand bit b) 1 0
place_bit operand bit (Fixed one) h = bit_at-zero bit
place_bit operand bit (Piece named place) h =
    elim (cases_eq named operand) [
      | inl same ↦ rw (eq-eqb named operand same) (place_bit_named place bit h)
      | inr other ↦ rw (ne_eqb named operand other) (bit_at-zero bit)
    ]

either : (t u : Bool) → max (cond t 1 0) (cond u 1 0) ≡ cond (t || u) 1 0
either true true = omega arith
either true false = omega arith
either false true = omega arith
either false false = omega arith

-- a bit of an operand's places is whether the coding has it
placed_bit : (operand bit : ℕ) (bits : List Bit) → bit < 64 → bit_at (placed_bits operand bits) bit ≡ cond (list_any (is_piece operand bit) bits) 1 0
placed_bit operand bit [] h = bit_at-zero bit
placed_bit operand bit (b ∷ bits) h =
    bit_at_or (place_of operand b) (placed_bits operand bits) bit
    ∙ ap (λ v. max v (bit_at (placed_bits operand bits) bit)) (place_bit operand bit b h)
    ∙ ap (max (cond (is_piece operand bit b) 1 0)) (placed_bit operand bit bits h)
    ∙ either (is_piece operand bit b) (list_any (is_piece operand bit) bits)

-- a value all bits of which are placed
pub kept_by : (operand : ℕ) (bits : List Bit) (v : ℕ) → v < 2 ^ 64 → bit_and v (placed_bits operand bits) ≡ v →
    (bit : ℕ) → list_any (is_piece operand bit) bits ≡ false → bit_at v bit ≡ 0
kept_by operand bits v small e bit none =
    elim (cases_lt bit 64) [
      | inl less ↦
          let place : bit_at (placed_bits operand bits) bit ≡ 0 = placed_bit operand bit bits less ∙ ap (λ t. cond t 1 0) none in
          omega (arith, ap (λ x. bit_at x bit) e, bit_at_and v (placed_bits operand bits) bit, place)
      | inr more ↦ bit_at_above v 64 bit small more
    ]

-- where no bit of a value stands at a place that the coding hasn't, the places keep each bit
kept_bit : (operand : ℕ) (bits : List Bit) (v : ℕ) → v < 2 ^ 64 →
    ((bit : ℕ) → list_any (is_piece operand bit) bits ≡ false → bit_at v bit ≡ 0) →
    (bit : ℕ) → min (bit_at v bit) (bit_at (placed_bits operand bits) bit) ≡ bit_at v bit
kept_bit operand bits v small kept bit =
    elim (cases_lt bit 64) [
      | inl less ↦ elim (cases_Bool (list_any (is_piece operand bit) bits)) [
        | inl there ↦
            let place : bit_at (placed_bits operand bits) bit ≡ 1 = placed_bit operand bit bits less ∙ ap (λ t. cond t 1 0) there in
            omega (arith, place, bit_at-lt v bit)
        | inr none ↦ omega (arith, kept bit none)
      ]
      | inr more ↦ omega (arith, bit_at_above v 64 bit small more)
    ]

pub kept_from : (operand : ℕ) (bits : List Bit) (v : ℕ) → v < 2 ^ 64 →
    ((bit : ℕ) → list_any (is_piece operand bit) bits ≡ false → bit_at v bit ≡ 0) → bit_and v (placed_bits operand bits) ≡ v
kept_from operand bits v small kept =
    same_from_bits _ _ (λ bit. bit_at_and v (placed_bits operand bits) bit ∙ kept_bit operand bits v small kept bit)

-- the operand that has the value can be coded just where all its bits are placed
pub codable_by : (bits : List Bit) (reach : Reach) (at number operand v placed : ℕ) → v < 2 ^ 64 → v ≡ coded_value reach at operand →
    IsReached reach at operand → placed ≡ placed_bits number bits → bit_and v placed ≡ v → IsCodable bits reach at number operand
codable_by bits reach at number operand v placed small is reached e f =
    record {
      reached = reached;
      kept = λ bit none. ap (λ x. bit_at x bit) (sym is) ∙ kept_by number bits v small (ap (bit_and v) (sym e) ∙ f) bit none;
    }

pub codable_from : (bits : List Bit) (reach : Reach) (at number operand v placed : ℕ) → v < 2 ^ 64 → v ≡ coded_value reach at operand →
    placed ≡ placed_bits number bits → IsCodable bits reach at number operand → bit_and v placed ≡ v
codable_from bits reach at number operand v placed small is e codable =
    ap (bit_and v) e ∙ kept_from number bits v small (λ bit none. ap (λ x. bit_at x bit) is ∙ codable.kept bit none)

-- a reach that was read
pub reach_read : (reaches read : List Reach) (number : ℕ) (d : Reach) → read ≡ reaches → number < length reaches →
    slice_get reaches number ≡ Some (get_or read number d)
reach_read reaches read number d e within =
    slice_get-get_or reaches number d within ∙ ap (λ rs. Some (get_or rs number d)) (sym e)

-- the operands before this one and it can be coded
pub codable_more : (bits given : List Bit) (reaches read : List Reach) (at number : ℕ) (xs : List ℕ) (d : Reach) → given ≡ bits → read ≡ reaches →
    number < length reaches →
    ((k : ℕ) (r : Reach) → k < number → slice_get reaches k ≡ Some r → IsCodable bits r at k (slice_index xs k)) →
    IsCodable given (get_or read number d) at number (slice_index xs number) →
    (k : ℕ) (r : Reach) → k < number + 1 → slice_get reaches k ≡ Some r → IsCodable bits r at k (slice_index xs k)
codable_more bits given reaches read at number xs d e f within before here k r less there =
    elim (cases_lt k number) [
      | inl below ↦ before k r below there
      | inr above ↦
          let same : number ≡ k = omega arith in
          let is : slice_get reaches number ≡ Some (get_or read number d) = reach_read reaches read number d f within in
          let one : get_or read number d ≡ r = cc (is, there, same) in
          subst (λ n. IsCodable bits r at n (slice_index xs n)) same
          (subst (λ bs. IsCodable bs r at number (slice_index xs number)) e
          (subst (λ y. IsCodable given y at number (slice_index xs number)) one here))
    ]

-- the coded values so far, and one more
pub coded_more : (reaches read : List Reach) (at number v : ℕ) (xs old into : List ℕ) (d : Reach) → read ≡ reaches → length reaches ≡ length xs →
    number < length xs → number < length old → into ≡ take number (coded_operands reaches at xs) ++ drop number old →
    v ≡ coded_value (get_or read number d) at (slice_index xs number) →
    set into number v ≡ take (number + 1) (coded_operands reaches at xs) ++ drop (number + 1) old
coded_more reaches read at number v xs old into d e count within room so_far is =
    let all : length (coded_operands reaches at xs) ≡ length xs = length-coded reaches at xs (sym count) in
    let there : slice_get reaches number ≡ Some (get_or read number d) = reach_read reaches read number d e (omega arith) in
    written_more (coded_operands reaches at xs) old into number v so_far (omega arith) room
    (is ∙ sym (coded_at reaches at xs number (get_or read number d) there within))
