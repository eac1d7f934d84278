-- Whether an instance stands at an address can be found out by trying all of them.
use Rattle.std.proofs.Common.{◌≡◌, ℕ, zero, suc, ◌+◌, ◌-◌, ◌<◌, ◌≤◌, ◌^◌, false, List, [], ◌∷◌, ◌++◌, ◌⊎◌, length, drop, Some, None, refl, sym, ◌∙◌, ap, subst, arith, inl, inr}
use Rattle.std.specs.Prelude.{slice_index}
use Rattle.std.specs.Int.{bit_at}
use Rattle.std.specs.List.{list_any, slice_get}
use Rattle.std.proofs.lemmas.Bool.{both_ways, cases_Bool, cases_eq, cases_lt}
use Rattle.std.proofs.lemmas.Nat.Bits.{bit_at-lt, bit_at_above}
use Rattle.std.proofs.lemmas.Option.{same_Some, slice_get_cases, slice_get_within}
use Rattle.qc_lists.specs.Law.Powers.{below_power}
use Rattle.qc_descr.specs.declared.coding.Bit.{Bit}
use Rattle.qc_descr.specs.declared.coding.Coding.{Coding}
use Rattle.qc_descr.specs.declared.coding.Reach.{Reach}
use Rattle.qc_descr.specs.declared.coding.Reach.TheVariants.{Plain, Relative, Absolute}
use Rattle.qc_descr.specs.declared.description.Description.{Description}
use Rattle.qc_descr.specs.declared.description.Instruction.{Instruction}
use Rattle.qc_descr.specs.declared.description.OperandKind.{OperandKind}
use Rattle.qc_descr.specs.declared.description.OperandKind.TheVariants.{Register, Imm, Addr}
use Rattle.qc_descr.specs.Description.{AreInRange, IsInRange, counts_of, kinds_of}
use Rattle.qc_descr.specs.Coding.{is_piece}
use Rattle.qc_descr.specs.Encoding.{AreCodable, IsCodable, coded_bytes}
use Rattle.qc_descr.specs.Reach.{IsReached, coded_operands, coded_value}
use Rattle.qc_descr.specs.Step.{EncodesAt, IsUndecodable}

-- something, or the proof that there is nothing
abbrev pub Found : Type 0 → Type 0
Found P = P ⊎ (P → ⊥)

-- a number below n with a property
pub found_below : (P : ℕ → Type 0) (try : (k : ℕ) → Found (P k)) (n : ℕ) → Found ((k : ℕ) × (k < n) × P k)
found_below P try zero = inr (λ h. absurd (omega (arith, h.1)))
found_below P try (suc n) =
    elim (try n) [
      | inl here ↦ inl (n, omega arith, here)
      | inr none ↦ elim (found_below P try n) [
        | inl below ↦ inl (below.0, omega (arith, below.1), below.2)
        | inr others ↦ inr (λ h. elim (cases_eq h.0 n) [
          | inl same ↦ none (subst P same h.2)
          | inr other ↦ others (h.0, omega (arith, other, h.1), h.2)
        ])
      ]
    ]

-- a property of each number below n
pub found_each : (P : ℕ → Type 0) (try : (k : ℕ) → Found (P k)) (n : ℕ) → Found ((k : ℕ) → k < n → P k)
found_each P try zero = inl (λ k h. absurd (omega (arith, h)))
found_each P try (suc n) =
    elim (try n) [
      | inl here ↦ elim (found_each P try n) [
        | inl below ↦ inl (λ k h. elim (cases_eq k n) [
          | inl same ↦ subst P (sym same) here
          | inr other ↦ below k (omega (arith, h, other))
        ])
        | inr none ↦ inr (λ each. none (λ k h. each k (omega (arith, h))))
      ]
      | inr none ↦ inr (λ each. none (each n (omega arith)))
    ]

-- two properties
found_both : {P Q : Type 0} → Found P → Found Q → Found (P × Q)
found_both (inl p) (inl q) = inl (p, q)
found_both (inr none) q = inr (λ h. none h.0)
found_both (inl p) (inr none) = inr (λ h. none h.1)

found_less : (m n : ℕ) → Found (m < n)
found_less m n = elim (cases_lt m n) [ inl less ↦ inl less | inr more ↦ inr (λ h. omega (arith, h, more)) ]

found_at_most : (m n : ℕ) → Found (m ≤ n)
found_at_most m n = elim (cases_lt n m) [ inl less ↦ inr (λ h. omega (arith, h, less)) | inr more ↦ inl more ]

-- whether an operand is within reach
found_reached : (reach : Reach) (at x : ℕ) → Found (IsReached reach at x)
found_reached Plain at x = inl tt
found_reached (Relative bits) at x = found_both (found_less x (at + 2 ^ (bits - 1))) (found_at_most at (x + 2 ^ (bits - 1)))
found_reached (Absolute bits) at x = found_less x (2 ^ bits)

-- a bit of a value that has no place, and is 1
abbrev IsLost : List Bit → ℕ → ℕ → ℕ → Type 0
IsLost bits number v bit = (list_any (is_piece number bit) bits ≡ false) × (bit_at v bit ≡ 1)

found_lost : (bits : List Bit) (number v bit : ℕ) → Found (IsLost bits number v bit)
found_lost bits number v bit =
    elim (cases_Bool (list_any (is_piece number bit) bits)) [
      | inl placed ↦ inr (λ h. both_ways _ h.0 placed)
      | inr none ↦ elim (cases_eq (bit_at v bit) 1) [ inl one ↦ inl (none, one) | inr other ↦ inr (λ h. other h.1) ]
    ]

abbrev Keeps : List Bit → ℕ → ℕ → Type 0
Keeps bits number v = (bit : ℕ) → list_any (is_piece number bit) bits ≡ false → bit_at v bit ≡ 0

-- whether a value has such a bit
found_kept : (bits : List Bit) (number v : ℕ) → Found (Keeps bits number v)
found_kept bits number v =
    elim (found_below (IsLost bits number v) (found_lost bits number v) v) [
      | inl lost ↦ inr (λ kept. omega (arith, kept lost.0 lost.2.0, lost.2.1))
      | inr none ↦ inl (λ bit absent. elim (cases_lt bit v) [
        | inl less ↦ elim (cases_eq (bit_at v bit) 1) [
          | inl one ↦ absurd (none (bit, less, (absent, one)))
          | inr other ↦ omega (arith, other, bit_at-lt v bit)
        ]
        | inr more ↦ bit_at_above v v bit (below_power v) more
      ])
    ]

found_operand : (bits : List Bit) (reach : Reach) (at number x : ℕ) → Found (IsCodable bits reach at number x)
found_operand bits reach at number x =
    elim (found_both (found_reached reach at x) (found_kept bits number (coded_value reach at x))) [
      | inl found ↦ inl (record { reached = found.0; kept = found.1 })
      | inr none ↦ inr (λ h. none (h.reached, h.kept))
    ]

found_reach : (coding : Coding) (at : ℕ) (xs : List ℕ) (number : ℕ) →
    Found ((reach : Reach) → slice_get coding.reaches number ≡ Some reach → IsCodable coding.bits reach at number (slice_index xs number))
found_reach coding at xs number =
    elim (slice_get_cases coding.reaches number).1 [
      | inl there ↦ elim (found_operand coding.bits there.0 at number (slice_index xs number)) [
        | inl here ↦ inl (λ reach is.
            subst (λ r. IsCodable coding.bits r at number (slice_index xs number)) (same_Some _ _ (sym there.2 ∙ is)) here)
        | inr none ↦ inr (λ h. none (h there.0 there.2))
      ]
      | inr past ↦ inl (λ reach is. let none : slice_get coding.reaches number ≡ None = past.1 in cc)
    ]

-- whether operands can be coded
found_codable : (coding : Coding) (at : ℕ) (xs : List ℕ) → Found (AreCodable coding at xs)
found_codable coding at xs =
    elim (found_each (λ number. (reach : Reach) → slice_get coding.reaches number ≡ Some reach → IsCodable coding.bits reach at number (slice_index xs number))
    (found_reach coding at xs) (length coding.reaches)) [
      | inl each ↦ inl (λ number reach is. each number (slice_get_within coding.reaches number reach is) reach is)
      | inr none ↦ inr (λ h. none (λ number less. h number))
    ]

-- a list that begins with another one
pub found_prefix : (xs ys : List ℕ) → Found ((more : List ℕ) × (ys ≡ xs ++ more))
found_prefix [] ys = inl (ys, refl)
found_prefix (x ∷ xs) [] = inr (λ h. let e : [] ≡ x ∷ (xs ++ h.0) = h.1 in cc)
found_prefix (x ∷ xs) (y ∷ ys) =
    elim (cases_eq y x) [
      | inl same ↦ elim (found_prefix xs ys) [
        | inl rest ↦ inl (rest.0, let e : ys ≡ xs ++ rest.0 = rest.1 in cc)
        | inr none ↦ inr (λ h. let e : y ∷ ys ≡ x ∷ (xs ++ h.0) = h.1 in let tail : ys ≡ xs ++ h.0 = cc in none (h.0, tail))
      ]
      | inr other ↦ inr (λ h. let e : y ∷ ys ≡ x ∷ (xs ++ h.0) = h.1 in let head : y ≡ x = cc in other head)
    ]

-- how many numbers are in range
range_of : Description → OperandKind → ℕ
range_of d (Register space) = slice_index (counts_of d) space
range_of d (Imm width) = 2 ^ width
range_of d Addr = 2 ^ d.facts.word

in_range : (d : Description) (k : OperandKind) (operand : ℕ) → operand < range_of d k → IsInRange d k operand
unfolding range_of
in_range d (Register space) operand h = h
in_range d (Imm width) operand h = h
in_range d Addr operand h = h

below_range : (d : Description) (k : OperandKind) (operand : ℕ) → IsInRange d k operand → operand < range_of d k
unfolding range_of
below_range d (Register space) operand h = h
below_range d (Imm width) operand h = h
below_range d Addr operand h = h

only_nil : (d : Description) (P : List ℕ → Type 0) → (P [] → ⊥) → (xs : List ℕ) → AreInRange d [] xs → P xs → ⊥
only_nil d P none [] range h = none h
only_nil d P none (x ∷ xs) range h = absurd range

-- operands in range with a property, the first one of which is this one
WithFirst : Description → OperandKind → List OperandKind → (List ℕ → Type 0) → ℕ → Type 0
WithFirst d k kinds P x = (xs : List ℕ) × AreInRange d kinds xs × P (x ∷ xs)

only_cons : (d : Description) (k : OperandKind) (kinds : List OperandKind) (P : List ℕ → Type 0) →
    ((x : ℕ) × (x < range_of d k) × WithFirst d k kinds P x → ⊥) → (xs : List ℕ) → AreInRange d (k ∷ kinds) xs → P xs → ⊥
unfolding WithFirst
only_cons d k kinds P none [] range h = absurd range
only_cons d k kinds P none (x ∷ xs) range h = none (x, below_range d k x range.0, (xs, range.1, h))

-- operands in range with a property
pub found_operands : (d : Description) (kinds : List OperandKind) (P : List ℕ → Type 0) → ((xs : List ℕ) → Found (P xs)) →
    Found ((xs : List ℕ) × AreInRange d kinds xs × P xs)
unfolding WithFirst
found_operands d [] P try =
    elim (try []) [
      | inl here ↦ inl ([], tt, here)
      | inr none ↦ inr (λ h. only_nil d P none h.0 h.1 h.2)
    ]
found_operands d (k ∷ kinds) P try =
    elim (found_below (WithFirst d k kinds P) (λ x. found_operands d kinds (λ xs. P (x ∷ xs)) (λ xs. try (x ∷ xs))) (range_of d k)) [
      | inl found ↦ inl (found.0 ∷ found.2.0, (in_range d k found.0 found.1, found.2.1), found.2.2)
      | inr none ↦ inr (λ h. only_cons d k kinds P none h.0 h.1 h.2)
    ]

-- an instance of the instruction of this number stands at the address
Stands : Description → List ℕ → ℕ → ℕ → Type 0
Stands d memory at number = (operands : List ℕ) × (bytes : List ℕ) × EncodesAt d memory at number operands bytes

-- the instruction's bytes under operands at an address
abbrev bytes_of : Description → Instruction → ℕ → List ℕ → List ℕ
bytes_of d i at xs = coded_bytes d.facts.order i.coding (coded_operands i.coding.reaches at xs)

found_coded : (d : Description) (memory : List ℕ) (at number : ℕ) (i : Instruction) → slice_get d.instructions number ≡ Some i →
    Found (Stands d memory at number)
unfolding Stands
found_coded d memory at number i is =
    elim (found_operands d (kinds_of i) (λ xs. AreCodable i.coding at xs × ((more : List ℕ) × (drop at memory ≡ bytes_of d i at xs ++ more)))
    (λ xs. found_both (found_codable i.coding at xs) (found_prefix (bytes_of d i at xs) (drop at memory)))) [
      | inl found ↦
          inl (
            found.0,
            bytes_of d i at found.0,
            record {
              encodes = record {
                instruction = i;
                is = is;
                coded = record { in_range = found.1; codable = found.2.0; bytes_are = refl };
              };
              more = found.2.1.0;
              prefix = found.2.1.1;
            },
          )
      | inr none ↦ inr (λ h.
          let e : EncodesAt d memory at number h.0 h.1 = h.2 in
          let same : e.encodes.instruction ≡ i = same_Some _ _ (sym e.encodes.is ∙ is) in
          none (
            h.0,
            subst (λ (x : Instruction). AreInRange d (kinds_of x) h.0) same e.encodes.coded.in_range,
            (
              subst (λ (x : Instruction). AreCodable x.coding at h.0) same e.encodes.coded.codable,
              (
                e.more,
                e.prefix ∙ ap (λ b. b ++ e.more) (e.encodes.coded.bytes_are ∙ ap (λ (x : Instruction). bytes_of d x at h.0) same),
              ),
            ),
          ))
    ]

found_numbered : (d : Description) (memory : List ℕ) (at number : ℕ) → Found (Stands d memory at number)
unfolding Stands
found_numbered d memory at number =
    elim (slice_get_cases d.instructions number).1 [
      | inl there ↦ found_coded d memory at number there.0 there.2
      | inr past ↦ inr (λ h.
          let e : EncodesAt d memory at number h.0 h.1 = h.2 in
          let some : slice_get d.instructions number ≡ Some e.encodes.instruction = e.encodes.is in
          let none : slice_get d.instructions number ≡ None = past.1 in
          cc)
    ]

-- an instance that stands at the address, or that there is none
pub found_instance : (d : Description) (memory : List ℕ) (at : ℕ) →
    ((number : ℕ) × (operands : List ℕ) × (bytes : List ℕ) × EncodesAt d memory at number operands bytes) ⊎ IsUndecodable d memory at
unfolding Stands
found_instance d memory at =
    elim (found_below (Stands d memory at) (found_numbered d memory at) (length d.instructions)) [
      | inl found ↦ inl (found.0, found.2.0, found.2.1, found.2.2)
      | inr none ↦ inr (λ number operands bytes e.
          none (number, slice_get_within d.instructions number e.encodes.instruction e.encodes.is, (operands, bytes, e)))
    ]
