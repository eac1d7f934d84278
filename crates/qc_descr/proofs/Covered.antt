-- The coding of a fit alternative without a fault covers its operands.
use Rattle.std.proofs.Common.{◌≡◌, ℕ, zero, suc, ◌≤◌, ◌^◌, List, [], ◌∷◌, length, true, false, cond, Option, None, Some, IsTrue, nat_eq, refl, sym, ◌∙◌, ap, subst, arith, inl, inr}
use Rattle.std.specs.List.{AllByRecursion, list_any}
use Rattle.std.proofs.lemmas.Bool.{and_parts, cases_Bool, eqb-true, leb-true, not-true}
use Rattle.std.proofs.lemmas.Option.{cond_some}
use Rattle.qc_descr.specs.declared.coding.Bit.{Bit}
use Rattle.qc_descr.specs.declared.coding.Reach.{Reach}
use Rattle.qc_descr.specs.declared.coding.Reach.TheVariants.{Plain, Relative, Absolute}
use Rattle.qc_descr.specs.declared.description.Description.{Description}
use Rattle.qc_descr.specs.declared.description.Instruction.{Instruction}
use Rattle.qc_descr.specs.declared.description.OperandKind.{OperandKind}
use Rattle.qc_descr.specs.declared.description.OperandKind.TheVariants as kind
use Rattle.qc_descr.specs.declared.parts.Operation.{Operation}
use Rattle.qc_descr.specs.declared.sketch.Claim.{Claim}
use Rattle.qc_descr.specs.declared.sketch.Claim.TheVariants.{Free, Once, Several}
use Rattle.qc_descr.specs.declared.sketch.Sketch.{Sketch}
use Rattle.qc_descr.specs.Coding.{is_piece}
use Rattle.qc_descr.specs.CodingFaults.{all_dropped, all_stand_if_sized, before_sizes, bits_of_claims, dropped_bits, exponent_below, is_free, is_several, missing_from, operand_size, operand_sizes, operands_of, operation_kinds, word_bits}
use Rattle.qc_descr.specs.Making.{IsFit, coding_of}
use Rattle.qc_descr.specs.Parts.{HasSpace}
use Rattle.qc_descr.specs.Valid.{HasSize, HaveSizes, IsCovered, MayDrop, stands_once}
use Rattle.qc_descr.proofs.Faultless.{IsFaultless}

-- claims of which each is for one bit have as many bits
length-bits_of_claims : (claims : List Claim) → list_any is_free claims ≡ false → list_any is_several claims ≡ false →
    length (bits_of_claims claims) ≡ length claims
length-bits_of_claims [] free twice = refl
length-bits_of_claims (Free ∷ claims) free twice = absurd cc
length-bits_of_claims (Once bit ∷ claims) free twice = ap suc (length-bits_of_claims claims free twice)
length-bits_of_claims (Several bits ∷ claims) free twice = absurd cc

-- an exponent that was found is one
exponent_is : (bound count size : ℕ) → exponent_below bound count ≡ Some size → count ≡ 2 ^ size
unfolding exponent_below
exponent_is zero count size h = absurd cc
exponent_is (suc n) count size h =
    elim (cases_Bool (nat_eq count (2 ^ n))) [
      | inl here ↦
          let same : n ≡ size = cc in
          eqb-true _ _ here ∙ ap (λ m. 2 ^ m) same
      | inr other ↦ exponent_is n count size (sym (ap (λ t. cond t (Some n) (exponent_below n count)) other) ∙ h)
    ]

-- a number of bits that was found is from 1 to the word's
word_bits_are : (word bits size : ℕ) → word_bits word bits ≡ Some size → (1 ≤ bits) × (bits ≤ word) × (size ≡ bits)
word_bits_are word bits size h =
    let found = cond_some _ _ _ h in
    let tests = and_parts _ _ found.0 in
    (leb-true _ _ tests.0, leb-true _ _ tests.1, sym found.1)

-- a size that was found is the operand's
pub has_size : (d : Description) (k : OperandKind) (reach : Reach) (size : ℕ) → HasSpace d.spaces k →
    operand_size d.facts.word d.spaces k reach ≡ Some size → HasSize d k reach size
has_size d (kind.Register space) Plain size within h = (within, exponent_is 7 _ size h)
has_size d (kind.Register space) (Relative bits) size within h = absurd cc
has_size d (kind.Register space) (Absolute bits) size within h = absurd cc
has_size d (kind.Imm width) Plain size within h = cc
has_size d (kind.Imm width) (Relative bits) size within h = absurd cc
has_size d (kind.Imm width) (Absolute bits) size within h = absurd cc
has_size d kind.Addr Plain size within h = absurd cc
has_size d kind.Addr (Relative bits) size within h = word_bits_are d.facts.word bits size h
has_size d kind.Addr (Absolute bits) size within h = word_bits_are d.facts.word bits size h

-- no more bits are missing than there are
missing_at_most : (operand : ℕ) (bits : List Bit) (from size : ℕ) → missing_from operand bits from size ≤ size
unfolding missing_from
missing_at_most operand bits from zero = omega arith
missing_at_most operand bits from (suc n) =
    elim (cases_Bool (list_any (is_piece operand from) bits)) [
      | inl stands ↦ rw stands (omega arith)
      | inr missing ↦ rw missing (omega (arith, missing_at_most operand bits (suc from) n))
    ]

-- an operand may drop what is counted as dropped
may_drop : (k : OperandKind) (operand : ℕ) (bits : List Bit) (size : ℕ) → MayDrop k size (dropped_bits k operand bits size)
may_drop (kind.Register space) operand bits size = refl
may_drop (kind.Imm width) operand bits size = refl
may_drop kind.Addr operand bits size = missing_at_most operand bits 0 size

-- sizes that are there are the first one's and the others'
pub record AreBefore (first : Option ℕ) (others : Option (List ℕ)) (sizes : List ℕ) : Type 0 where
  pub size : ℕ
  pub more : List ℕ
  pub is : first ≡ Some size
  pub are : others ≡ Some more
  pub both : sizes ≡ size ∷ more

-- such sizes have both parts
pub sizes_before : (first : Option ℕ) (others : Option (List ℕ)) (sizes : List ℕ) → before_sizes first others ≡ Some sizes → AreBefore first others sizes
sizes_before None others sizes h = absurd cc
sizes_before (Some n) None sizes h = absurd cc
sizes_before (Some n) (Some ns) sizes h = record { size = n; more = ns; is = refl; are = refl; both = cc }

-- the sizes that were found are those of the operands, whose dropped bits are those that are missing
have_sizes : (d : Description) (bits : List Bit) (operand : ℕ) (kinds : List OperandKind) (reaches : List Reach) (sizes : List ℕ) →
    AllByRecursion (HasSpace d.spaces) kinds → operand_sizes d.facts.word d.spaces kinds reaches ≡ Some sizes →
    HaveSizes d kinds reaches sizes (all_dropped kinds operand bits sizes)
have_sizes d bits operand [] [] sizes within h =
    let none : [] ≡ sizes = cc in
    subst (λ xs. HaveSizes d [] [] xs (all_dropped [] operand bits xs)) none tt
have_sizes d bits operand [] (reach ∷ reaches) sizes within h = absurd cc
have_sizes d bits operand (k ∷ kinds) [] sizes within h = absurd cc
have_sizes d bits operand (k ∷ kinds) (reach ∷ reaches) sizes within h =
    let found : AreBefore (operand_size d.facts.word d.spaces k reach) (operand_sizes d.facts.word d.spaces kinds reaches) sizes =
    sizes_before _ _ sizes h in
    subst (λ xs. HaveSizes d (k ∷ kinds) (reach ∷ reaches) xs (all_dropped (k ∷ kinds) operand bits xs)) (sym found.both) (
      has_size d k reach found.size within.0 found.is,
      may_drop k operand bits found.size,
      have_sizes d bits (suc operand) kinds reaches found.more within.1 found.are,
    )

-- all operands stand where they should, by the sizes that were found
stand_by_sizes : (kinds : List OperandKind) (given : Option (List ℕ)) (sizes : List ℕ) (bits : List Bit) → given ≡ Some sizes →
    all_stand_if_sized kinds given bits ≡ true → IsTrue (stands_once sizes (all_dropped kinds 0 bits sizes) bits)
stand_by_sizes kinds given sizes bits is h = subst (λ g. all_stand_if_sized kinds g bits ≡ true) is h

-- the instruction of an operation by an alternative
abbrev pub instruction_of : Operation → Sketch → Instruction
instruction_of o s = record { name = o.name; operands = o.operands; rtl = o.rtl; coding = coding_of s }

-- the coding covers the operands
pub covered : (d : Description) (o : Operation) (s : Sketch) → AllByRecursion (HasSpace d.spaces) (operation_kinds o) →
    IsFit (operands_of d.facts.word d.spaces o) s → IsFaultless (operands_of d.facts.word d.spaces o) s → IsCovered d (instruction_of o s)
covered d o s within fit faultless =
    let covers = and_parts _ _ faultless.covering in
    let kinds : List OperandKind = operation_kinds o in
    record {
      some_token = fit.some_token;
      few_tokens = fit.few_tokens;
      tokens = fit.tokens;
      no_free_bit = length-bits_of_claims s.claims (not-true _ covers.0) faultless.once ∙ fit.claims;
      sizes = fit.sizes;
      dropped = all_dropped kinds 0 (bits_of_claims s.claims) fit.sizes;
      sized = have_sizes d (bits_of_claims s.claims) 0 kinds s.reaches fit.sizes within fit.sized;
      within = fit.within;
      once = stand_by_sizes kinds _ fit.sizes (bits_of_claims s.claims) fit.sized covers.1;
    }
