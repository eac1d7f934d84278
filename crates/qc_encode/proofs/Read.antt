-- The instruction of an instance, once it was read.
use Rattle.std.proofs.Common.{◌≡◌, ℕ, ◌<◌, List, length, get_or, Some, sym, ◌∙◌, ap, subst, arith}
use Rattle.std.specs.List.{slice_get}
use Rattle.std.proofs.lemmas.List.{length-map}
use Rattle.std.proofs.lemmas.Option.{get_or_from_slice_get, same_Some, slice_get-get_or}
use Rattle.qc_descr.specs.declared.coding.Reach.{Reach}
use Rattle.qc_descr.specs.declared.description.Description.{Description}
use Rattle.qc_descr.specs.declared.description.Instruction.{Instruction}
use Rattle.qc_descr.specs.declared.description.OperandKind.{OperandKind}
use Rattle.qc_descr.specs.declared.description.OperandKind.TheVariants.{Addr}
use Rattle.qc_descr.specs.Description.{AreInRange, kinds_of}
use Rattle.qc_descr.specs.Encoding.{AreCodable, Encodes, IsCodable, IsInstance, coded_bytes}
use Rattle.qc_descr.specs.Reach.{HasFewBits, coded_operands}
use Rattle.qc_encode.specs.declared.operands.OutOfReach.{OutOfReach}
use Rattle.qc_encode.specs.Inner.InstructionOf.{IsInstructionOf}
use Rattle.qc_encode.specs.Refusal.{IsFirstUncodable, IsOutOfReach}
use Rattle.qc_descr.specs.Valid.{IsCovered, IsValid}
use Rattle.qc_descr.specs.Law.CodedBytes.{covered_at, few_operands}
use Rattle.qc_descr.specs.Law.Operands.{SizedAt, has_few_bits, length-in_range, length-reaches, sized_at}

pub same_read : (d : Description) (xs : List Instruction) (number : ℕ) (i r : Instruction) → slice_get d.instructions number ≡ Some i →
    xs ≡ d.instructions → r ≡ get_or xs number r → r ≡ i
same_read d xs number i r is e read =
    read ∙ ap (λ ys. get_or ys number r) e ∙ get_or_from_slice_get d.instructions number i r is

few_bits_at : (d : Description) (i : Instruction) (number : ℕ) → IsValid d → IsCovered d i → number < length i.coding.reaches →
    (reach : Reach) → slice_get i.coding.reaches number ≡ Some reach → HasFewBits reach
few_bits_at d i number valid covered within reach is =
    let count : length i.coding.reaches ≡ length (kinds_of i) =
    length-reaches d (kinds_of i) i.coding.reaches covered.sizes covered.dropped covered.sized in
    let k : OperandKind = get_or (kinds_of i) number Addr in
    let sized : SizedAt d k i.coding.reaches covered.sizes covered.dropped number =
    sized_at d (kinds_of i) i.coding.reaches covered.sizes covered.dropped number k covered.sized
    (slice_get-get_or (kinds_of i) number Addr (omega arith)) in
    let same : sized.reach ≡ reach = cc (sized.is, is) in
    subst HasFewBits same (has_few_bits d k sized.reach _ valid.layout sized.size)

-- the instruction that was read is the instance's
pub is_read : (d : Description) (xs : List Instruction) (number : ℕ) (operands : List ℕ) (r : Instruction) → IsValid d →
    (one : IsInstance d number operands) → xs ≡ d.instructions → r ≡ get_or xs number r → IsInstructionOf d number operands r
is_read d xs number operands r valid one e read =
    let i : Instruction = one.instruction in
    let same : r ≡ i = same_read d xs number i r one.is e read in
    let there : slice_get d.instructions number ≡ Some r = one.is ∙ ap Some (sym same) in
    let covered : IsCovered d r = covered_at d number r valid there in
    let range : AreInRange d (kinds_of r) operands = subst (λ (x : Instruction). AreInRange d (kinds_of x) operands) (sym same) one.in_range in
    let count : length operands ≡ length (kinds_of r) = length-in_range d (kinds_of r) operands range in
    let kinds : length (kinds_of r) ≡ length r.operands = length-map r.operands (λ (o : List ℕ × OperandKind). o.1) in
    let reaches : length r.coding.reaches ≡ length (kinds_of r) =
    length-reaches d (kinds_of r) r.coding.reaches covered.sizes covered.dropped covered.sized in
    record {
      is = there;
      covered = covered;
      in_range = range;
      few = omega (arith, few_operands d number r valid there);
      reaches = omega arith;
      bits = λ k x within. few_bits_at d r k valid covered within (get_or r.coding.reaches k x)
          (slice_get-get_or r.coding.reaches k x within);
    }

-- the bytes that are put are the instance's
pub encoded : (d : Description) (at number : ℕ) (operands given : List ℕ) (r : Instruction) →
    IsInstructionOf d number operands r → given ≡ operands → (coded bytes : List ℕ) → AreCodable r.coding at given →
    coded ≡ coded_operands r.coding.reaches at given → bytes ≡ coded_bytes d.facts.order r.coding coded → Encodes d at number operands bytes
encoded d at number operands given r read e coded bytes codable is put = record {
  instruction = r;
  is = read.is;
  coded = record {
    in_range = read.in_range;
    codable = subst (AreCodable r.coding at) e codable;
    bytes_are = put ∙ ap (coded_bytes d.facts.order r.coding) (is ∙ ap (coded_operands r.coding.reaches at) e);
  };
}

-- the operand that is refused is the first that can't be coded
pub refused : (d : Description) (at number : ℕ) (operands given : List ℕ) (r : Instruction) →
    IsInstructionOf d number operands r → given ≡ operands → (o : OutOfReach) → IsFirstUncodable r.coding at given o →
    IsOutOfReach d at number operands o
refused d at number operands given r read e o first = record {
  instruction = r;
  is = read.is;
  first = subst (λ xs. IsFirstUncodable r.coding at xs o) e first;
}

-- where an operand can't be coded no bytes are the instance's
pub refuted : (d : Description) (at number : ℕ) (operands : List ℕ) (o : OutOfReach) (bytes : List ℕ) → IsOutOfReach d at number operands o →
    Encodes d at number operands bytes → ⊥
refuted d at number operands o bytes out e =
    let same : e.instruction ≡ out.instruction = same_Some _ _ (sym e.is ∙ out.is) in
    let codable : AreCodable out.instruction.coding at operands =
    subst (λ (x : Instruction). AreCodable x.coding at operands) same e.coded.codable in
    out.first.uncodable (subst (IsCodable out.instruction.coding.bits out.first.reach at o.operand) (sym out.first.value)
    (codable o.operand out.first.reach out.first.is))
