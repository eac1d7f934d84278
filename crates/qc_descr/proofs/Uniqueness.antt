-- At most one instance stands at an address.
use Rattle.std.proofs.Common.{◌≡◌, ℕ, ◌<◌, List, ◌++◌, drop, map, Some, sym, ◌∙◌, ap, subst, inl, inr}
use Rattle.std.specs.List.{slice_get}
use Rattle.std.specs.Option.{option_map}
use Rattle.std.proofs.lemmas.Bool.{cases_order}
use Rattle.std.proofs.lemmas.Option.{same_Some, slice_get-map}
use Rattle.qc_descr.specs.declared.description.Description.{Description}
use Rattle.qc_descr.specs.declared.description.Instruction.{Instruction}
use Rattle.qc_descr.specs.Coding.{memory_bytes}
use Rattle.qc_descr.specs.Description.{AreInRange, kinds_of}
use Rattle.qc_descr.specs.Encoding.{AreCodable, coded_bytes}
use Rattle.qc_descr.specs.Reach.{coded_operands}
use Rattle.qc_descr.specs.Law.CodedBytes.{covered_at}
use Rattle.qc_descr.specs.Step.{EncodesAt}
use Rattle.qc_descr.specs.Valid.{IsValid}
use Rattle.qc_descr.proofs.Apart.{bytes_apart, two_differ}
use Rattle.qc_descr.proofs.Operands.{same_instance}

pub coding_at : (is : List Instruction) (n : ℕ) (i : Instruction) → slice_get is n ≡ Some i → slice_get (map (λ (x : Instruction). x.coding) is) n ≡ Some i.coding
coding_at is n i h = slice_get-map (λ (x : Instruction). x.coding) is n ∙ ap (option_map (λ (x : Instruction). x.coding)) h

-- the memory from the address, by the instance's coding
pub from_coding : (d : Description) (memory : List ℕ) (at n : ℕ) (xs bytes : List ℕ) (e : EncodesAt d memory at n xs bytes) →
    drop at memory ≡ coded_bytes d.facts.order e.encodes.instruction.coding (coded_operands e.encodes.instruction.coding.reaches at xs) ++ e.more
from_coding d memory at n xs bytes e = e.prefix ∙ ap (λ b. b ++ e.more) e.encodes.coded.bytes_are

other_instruction : (d : Description) (memory : List ℕ) (at m n : ℕ) (xs ys bytes more_bytes : List ℕ) → IsValid d →
    EncodesAt d memory at m xs bytes → EncodesAt d memory at n ys more_bytes → m < n → ⊥
other_instruction d memory at m n xs ys bytes more_bytes valid e f less =
    let i : Instruction = e.encodes.instruction in
    let j : Instruction = f.encodes.instruction in
    bytes_apart (coded_operands i.coding.reaches at xs) (coded_operands j.coding.reaches at ys) e.more f.more (memory_bytes d.facts.order i.coding) (memory_bytes d.facts.order j.coding)
    (two_differ d.facts.order (map (λ (x : Instruction). x.coding) d.instructions) m n i.coding j.coding valid.differ less
    (coding_at d.instructions m i e.encodes.is) (coding_at d.instructions n j f.encodes.is))
    (sym (from_coding d memory at m xs bytes e) ∙ from_coding d memory at n ys more_bytes f)

-- two instances with one number
pub same_instruction : (d : Description) (memory : List ℕ) (at m n : ℕ) (xs ys bytes more_bytes : List ℕ)
    (e : EncodesAt d memory at m xs bytes) (f : EncodesAt d memory at n ys more_bytes) → m ≡ n →
    f.encodes.instruction ≡ e.encodes.instruction
same_instruction d memory at m n xs ys bytes more_bytes e f same =
    same_Some _ _ (sym f.encodes.is ∙ ap (slice_get d.instructions) (sym same) ∙ e.encodes.is)

same_rest : (d : Description) (memory : List ℕ) (at m n : ℕ) (xs ys bytes more_bytes : List ℕ) → IsValid d →
    EncodesAt d memory at m xs bytes → EncodesAt d memory at n ys more_bytes → m ≡ n → (xs ≡ ys) × (bytes ≡ more_bytes)
same_rest d memory at m n xs ys bytes more_bytes valid e f same =
    let i : Instruction = e.encodes.instruction in
    let one : f.encodes.instruction ≡ i = same_instruction d memory at m n xs ys bytes more_bytes e f same in
    let in_range : AreInRange d (kinds_of i) ys = subst (λ (x : Instruction). AreInRange d (kinds_of x) ys) one f.encodes.coded.in_range in
    let codable : AreCodable i.coding at ys = subst (λ (x : Instruction). AreCodable x.coding at ys) one f.encodes.coded.codable in
    let bytes_of : Instruction → List ℕ → List ℕ = λ x zs. coded_bytes d.facts.order x.coding (coded_operands x.coding.reaches at zs) in
    let there : bytes_of f.encodes.instruction ys ≡ bytes_of i ys = ap (λ x. bytes_of x ys) one in
    let operands : xs ≡ ys =
    same_instance d i at xs ys e.more f.more (covered_at d m i valid e.encodes.is) e.encodes.coded.in_range in_range e.encodes.coded.codable codable
    (sym (from_coding d memory at m xs bytes e) ∙ from_coding d memory at n ys more_bytes f ∙ ap (λ b. b ++ f.more) there) in
    (operands, e.encodes.coded.bytes_are ∙ ap (bytes_of i) operands ∙ sym there ∙ sym f.encodes.coded.bytes_are)

pub one_instance : (d : Description) (memory : List ℕ) (at m n : ℕ) (xs ys bytes more_bytes : List ℕ) → IsValid d →
    EncodesAt d memory at m xs bytes → EncodesAt d memory at n ys more_bytes → (m ≡ n) × (xs ≡ ys) × (bytes ≡ more_bytes)
one_instance d memory at m n xs ys bytes more_bytes valid e f =
    elim (cases_order m n) [
      | inl same ↦
          let rest : (xs ≡ ys) × (bytes ≡ more_bytes) = same_rest d memory at m n xs ys bytes more_bytes valid e f same in
          (same, rest.0, rest.1)
      | inr apart ↦ elim apart [
        | inl less ↦ absurd (other_instruction d memory at m n xs ys bytes more_bytes valid e f less)
        | inr more ↦ absurd (other_instruction d memory at n m ys xs more_bytes bytes valid f e more)
      ]
    ]
