-- The instruction of an instance that was found, read from the description.
use Rattle.std.proofs.Common.{◌≡◌, ℕ, ◌<◌, List, length, get_or, Some, sym, ◌∙◌, ap, subst, arith}
use Rattle.std.specs.List.{slice_get}
use Rattle.std.proofs.lemmas.Option.{same_Some, slice_get_within}
use Rattle.qc_descr.specs.declared.description.Description.{Description}
use Rattle.qc_descr.specs.declared.description.Instruction.{Instruction}
use Rattle.qc_descr.specs.Description.{AreInRange, kinds_of}
use Rattle.qc_descr.specs.Law.CodedBytes.{instruction_read}

pub within_read : (d : Description) (xs : List Instruction) (number : ℕ) (i : Instruction) → xs ≡ d.instructions →
    slice_get d.instructions number ≡ Some i → number < length xs
within_read d xs number i e is = omega (arith, ap length e, slice_get_within d.instructions number i is)

pub same_read : (d : Description) (xs : List Instruction) (number : ℕ) (i r : Instruction) → xs ≡ d.instructions →
    slice_get d.instructions number ≡ Some i → r ≡ get_or xs number r → slice_get d.instructions number ≡ Some r
same_read d xs number i r e is read = instruction_read d xs number r e (within_read d xs number i e is) read

pub range_read : (d : Description) (number : ℕ) (xs : List ℕ) (r i : Instruction) → slice_get d.instructions number ≡ Some r →
    slice_get d.instructions number ≡ Some i → AreInRange d (kinds_of i) xs → AreInRange d (kinds_of r) xs
range_read d number xs r i is there range =
    let same : i ≡ r = same_Some i r (sym there ∙ is) in
    subst (λ (x : Instruction). AreInRange d (kinds_of x) xs) same range
