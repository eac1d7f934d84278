-- Instances in the memory.
use Rattle.std.proofs.Common.{None, sum, ◌≡◌, ℕ, ◌+◌, ◌<◌, ◌≤◌, List, [], ◌∷◌, ◌++◌, length, take, drop, get_or, set, Some, sym, ◌∙◌, ap, subst, arith, inl, inr, false, length-take, length-take-le}
use Rattle.std.specs.Prelude.{slice_index}
use Rattle.std.specs.Int.{bit_at}
use Rattle.std.specs.List.{list_any, slice_get}
use Rattle.qc_descr.specs.Coding.{is_piece}
use Rattle.std.proofs.Math.Seq.{get_or-append_seam}
use Rattle.std.proofs.lemmas.List.{ext_get_or, get_or_append_left, get_or-set_other, get_or-set_same, get_or-take, length-map, take-append-drop, take_all, take_at}
use Rattle.std.proofs.lemmas.Option.{get_or_from_slice_get, slice_get-get_or, slice_get_within}
use Rattle.std.proofs.lemmas.Bool.{cases_lt}
use Rattle.qc_descr.specs.declared.coding.Bit.{Bit}
use Rattle.qc_descr.specs.declared.coding.Reach.{Reach}
use Rattle.qc_descr.specs.declared.coding.Reach.TheVariants.{Plain}
use Rattle.qc_descr.specs.declared.description.Description.{Description}
use Rattle.qc_descr.specs.declared.description.Instance.{Instance}
use Rattle.qc_descr.specs.declared.description.Instruction.{Instruction}
use Rattle.qc_descr.specs.declared.description.OperandKind.{OperandKind}
use Rattle.qc_descr.specs.Description.{AreInRange, kinds_of, size_of}
use Rattle.qc_descr.specs.Encoding.{IsCodable, IsCodedBy, coded_bytes}
use Rattle.qc_descr.specs.Reach.{HasFewBits, IsReached, coded_operands, coded_value}
use Rattle.qc_descr.specs.Step.{EncodesAt, IsUndecodable}
use Rattle.qc_descr.specs.Valid.{HasLayout, IsCovered, IsValid}
use Rattle.qc_descr.specs.Law.CodedBytes.{covered_at, few_bits, few_operands, instruction_read, length-coded_bytes}
use Rattle.qc_decode.specs.Decoder.{DecodesAt}
use Rattle.qc_decode.specs.Inner.OperandsAt.{IsInstructionOf}
use Rattle.qc_descr.specs.Law.Operands.{SizedAt, coded_at, has_few_bits, kind_read, length-coded, length-in_range, length-reaches, sized_at}

-- the instruction's bytes at the front of a memory are as many as it has
pub coded_length : (d : Description) (i : Instruction) (at : ℕ) (xs memory : List ℕ) → IsCovered d i → IsCodedBy d i at xs (take (size_of i) memory) →
    size_of i ≤ length memory
coded_length d i at xs memory covered coded =
    let count : length (take (size_of i) memory) ≡ size_of i =
    ap length coded.bytes_are ∙ length-coded_bytes d.facts.order i.coding (coded_operands i.coding.reaches at xs) covered.tokens in
    omega (arith, count, length-take (size_of i) memory)

-- an instance at an address, by its instruction's bytes there
pub coded_there : (d : Description) (i : Instruction) (memory : List ℕ) (at number : ℕ) (xs bytes : List ℕ) → IsCovered d i →
    slice_get d.instructions number ≡ Some i → EncodesAt d memory at number xs bytes → IsCodedBy d i at xs (take (size_of i) (drop at memory))
coded_there d i memory at number xs bytes covered is e =
    let same : e.encodes.instruction ≡ i = cc (e.encodes.is, is) in
    let coded : IsCodedBy d i at xs bytes = subst (λ (x : Instruction). IsCodedBy d x at xs bytes) same e.encodes.coded in
    let count : length bytes ≡ size_of i =
    ap length coded.bytes_are ∙ length-coded_bytes d.facts.order i.coding (coded_operands i.coding.reaches at xs) covered.tokens in
    let front : take (size_of i) (drop at memory) ≡ bytes = ap (take (size_of i)) e.prefix ∙ take_at bytes e.more (size_of i) count in
    subst (IsCodedBy d i at xs) (sym front) coded

pub encodes_at : (d : Description) (i : Instruction) (memory : List ℕ) (at number size : ℕ) (xs : List ℕ) →
    slice_get d.instructions number ≡ Some i → size ≡ size_of i → IsCodedBy d i at xs (take (size_of i) (drop at memory)) →
    EncodesAt d memory at number xs (take size (drop at memory))
encodes_at d i memory at number size xs is e coded = record {
  encodes = record {
    instruction = i;
    is = is;
    coded = subst (λ n. IsCodedBy d i at xs (take n (drop at memory))) (sym e) coded;
  };
  more = drop size (drop at memory);
  prefix = sym (take-append-drop size (drop at memory));
}

-- all operands were read
pub read_all : (d : Description) (kinds : List OperandKind) (xs ys : List ℕ) (number : ℕ) → AreInRange d kinds xs → length kinds ≤ number →
    ys ≡ take number xs → ys ≡ xs
read_all d kinds xs ys number range h e = e ∙ take_all number xs (omega (arith, length-in_range d kinds xs range))

-- an instruction that was read is one of the description
pub kept_item : (d : Description) (xs : List Instruction) (number : ℕ) (i : Instruction) → IsValid d → xs ≡ d.instructions → number < length xs →
    i ≡ get_or xs number i → (slice_get d.instructions number ≡ Some i) × IsInstructionOf d i
kept_item d xs number i valid e within read =
    let is : slice_get d.instructions number ≡ Some i = instruction_read d xs number i e within read in
    (is, record { layout = valid.layout; limits = valid.limits; covered = covered_at d number i valid is; few = few_operands d number i valid is })

-- no instance of the instructions so far stands at the address, nor one of the next
pub none_more : (d : Description) (i : Instruction) (memory : List ℕ) (at number : ℕ) → IsCovered d i → slice_get d.instructions number ≡ Some i →
    ((k : ℕ) (xs bytes : List ℕ) → k < number → EncodesAt d memory at k xs bytes → ⊥) →
    ((xs : List ℕ) → IsCodedBy d i at xs (take (size_of i) (drop at memory)) → ⊥) →
    (k : ℕ) (xs bytes : List ℕ) → k < number + 1 → EncodesAt d memory at k xs bytes → ⊥
none_more d i memory at number covered is before here k xs bytes less e =
    elim (cases_lt k number) [
      | inl below ↦ before k xs bytes below e
      | inr above ↦
          let same : k ≡ number = omega arith in
          here xs (coded_there d i memory at number xs bytes covered is (subst (λ n. EncodesAt d memory at n xs bytes) same e))
    ]

pub none_all : (d : Description) (memory : List ℕ) (at number : ℕ) → length d.instructions ≤ number →
    ((k : ℕ) (xs bytes : List ℕ) → k < number → EncodesAt d memory at k xs bytes → ⊥) → IsUndecodable d memory at
none_all d memory at number all none k xs bytes e =
    none k xs bytes (omega (arith, all, slice_get_within d.instructions k e.encodes.instruction e.encodes.is)) e

-- an operand that was read, with its coded value
pub record IsDecodedAs (bits : List Bit) (reach : Reach) (at number operand coded : ℕ) : Type 0 where
  pub codable : IsCodable bits reach at number operand
  pub value : coded ≡ coded_value reach at operand

-- what is known of an operand's kind and reach, once they were read
pub record IsOperandRead (i : Instruction) (number : ℕ) (k : OperandKind) (r : Reach) : Type 0 where
  pub kind : slice_get (kinds_of i) number ≡ Some k
  pub reach : slice_get i.coding.reaches number ≡ Some r
  pub within : number < length i.coding.reaches
  pub bits : HasFewBits r

pub operand_read : (d : Description) (i : Instruction) (os : List (List ℕ × OperandKind)) (rs : List Reach) (number : ℕ) (o : List ℕ × OperandKind) →
    HasLayout d → IsCovered d i → os ≡ i.operands → rs ≡ i.coding.reaches → number < length os → o ≡ get_or os number o →
    IsOperandRead i number o.1 (get_or rs number Plain)
operand_read d i os rs number o layout covered e f within read =
    let kind : slice_get (kinds_of i) number ≡ Some o.1 = kind_read i os number o e within read in
    let sized : SizedAt d o.1 i.coding.reaches covered.sizes covered.dropped number =
    sized_at d (kinds_of i) i.coding.reaches covered.sizes covered.dropped number o.1 covered.sized kind in
    let same : get_or rs number Plain ≡ sized.reach =
    ap (λ ys. get_or ys number Plain) f ∙ get_or_from_slice_get i.coding.reaches number sized.reach Plain sized.is in
    record {
      kind = kind;
      reach = sized.is ∙ ap Some (sym same);
      within = slice_get_within i.coding.reaches number sized.reach sized.is;
      bits = subst HasFewBits (sym same) (has_few_bits d o.1 sized.reach (slice_index covered.sizes number) layout sized.size);
    }

pub all_read : (d : Description) (i : Instruction) (os : List (List ℕ × OperandKind)) → IsCovered d i → os ≡ i.operands →
    (length (kinds_of i) ≡ length os) × (length i.coding.reaches ≡ length os)
all_read d i os covered e =
    let kinds : length (kinds_of i) ≡ length os =
    length-map i.operands (λ (o : List ℕ × OperandKind). o.1) ∙ ap length (sym e) in
    (kinds, length-reaches d (kinds_of i) i.coding.reaches covered.sizes covered.dropped covered.sized ∙ kinds)

-- the operands so far with their coded values, and one more
pub each_more : (bits : List Bit) (reaches : List Reach) (at number x v : ℕ) (items coded : List ℕ) (r : Reach) →
    slice_get reaches number ≡ Some r → length items ≡ number → number < length coded →
    ((k : ℕ) (reach : Reach) → k < number → slice_get reaches k ≡ Some reach → IsDecodedAs bits reach at k (slice_index items k) (slice_index coded k)) →
    IsReached r at x → coded_value r at x ≡ v → ((bit : ℕ) → list_any (is_piece number bit) bits ≡ false → bit_at v bit ≡ 0) →
    (k : ℕ) (reach : Reach) → k < number + 1 → slice_get reaches k ≡ Some reach →
    IsDecodedAs bits reach at k (slice_index (items ++ x ∷ []) k) (slice_index (set coded number v) k)
each_more bits reaches at number x v items coded r is count room before reached value kept k reach less there =
    elim (cases_lt k number) [
      | inl below ↦
          let other : k ≡ number → ⊥ = λ e. omega (arith, e, below) in
          subst (λ y. IsDecodedAs bits reach at k y (slice_index (set coded number v) k)) (sym (get_or_append_left items (x ∷ []) 0 k (omega arith)))
          (subst (λ y. IsDecodedAs bits reach at k (slice_index items k) y) (sym (get_or-set_other coded number k v 0 other)) (before k reach below there))
      | inr above ↦
          let same : number ≡ k = omega arith in
          let one : r ≡ reach = cc (is, there, same) in
          let operand : slice_index (items ++ x ∷ []) number ≡ x =
          ap (slice_index (items ++ x ∷ [])) (sym count) ∙ get_or-append_seam items x [] 0 in
          let stored : slice_index (set coded number v) number ≡ v = get_or-set_same coded number v 0 room in
          let here : IsDecodedAs bits r at number x v =
          record { codable = record { reached = reached; kept = λ bit none. ap (λ y. bit_at y bit) value ∙ kept bit none }; value = sym value } in
          subst (λ n. IsDecodedAs bits reach at n (slice_index (items ++ x ∷ []) n) (slice_index (set coded number v) n)) same
          (subst (λ y. IsDecodedAs bits y at number (slice_index (items ++ x ∷ []) number) (slice_index (set coded number v) number)) one
          (subst (λ y. IsDecodedAs bits r at number y (slice_index (set coded number v) number)) (sym operand)
          (subst (λ y. IsDecodedAs bits r at number x y) (sym stored) here)))
    ]

-- all operands, and the coded values in front
pub coded_front : (bits : List Bit) (reaches : List Reach) (at n : ℕ) (items coded : List ℕ) → n ≡ length reaches → length items ≡ n → n ≤ length coded →
    ((k : ℕ) (reach : Reach) → k < n → slice_get reaches k ≡ Some reach → IsDecodedAs bits reach at k (slice_index items k) (slice_index coded k)) →
    take n coded ≡ coded_operands reaches at items
coded_front bits reaches at n items coded e count room each =
    let all : length (coded_operands reaches at items) ≡ length items = length-coded reaches at items (count ∙ e) in
    let front : length (take n coded) ≡ n = length-take-le n coded room in
    ext_get_or 0 (take n coded) (coded_operands reaches at items) (omega arith) (λ k h.
    let is : slice_get reaches k ≡ Some (get_or reaches k Plain) = slice_get-get_or reaches k Plain (omega arith) in
    get_or-take n coded k 0 (omega arith) ∙ (each k (get_or reaches k Plain) (omega arith) is).value
    ∙ sym (coded_at reaches at items k (get_or reaches k Plain) is (omega arith)))

-- an instruction's bytes with these operands
pub coded_by : (d : Description) (i : Instruction) (at n : ℕ) (items coded bytes : List ℕ) → AreInRange d (kinds_of i) items →
    n ≡ length i.coding.reaches → length items ≡ n → n ≤ length coded →
    ((k : ℕ) (reach : Reach) → k < n → slice_get i.coding.reaches k ≡ Some reach →
    IsDecodedAs i.coding.bits reach at k (slice_index items k) (slice_index coded k)) →
    bytes ≡ coded_bytes d.facts.order i.coding (take n coded) → IsCodedBy d i at items bytes
coded_by d i at n items coded bytes range e count room each is = record {
  in_range = range;
  codable = λ number reach there.
      (each number reach (omega (arith, slice_get_within i.coding.reaches number reach there)) there).codable;
  bytes_are = is ∙ ap (coded_bytes d.facts.order i.coding) (coded_front i.coding.bits i.coding.reaches at n items coded e count room each);
}

-- what is answered where an instruction of the description is coded by the bytes at the address
pub decoded : (d : Description) (i : Instruction) (memory rest : List ℕ) (at size : ℕ) (instance : Instance) →
    slice_get d.instructions instance.instruction ≡ Some i → IsCovered d i → rest ≡ drop at memory → size ≡ size_of i →
    IsCodedBy d i at instance.operands.items (take (size_of i) rest) → DecodesAt d memory at (Some (instance, size))
decoded d i memory rest at size instance is covered e sized coded =
    let here : IsCodedBy d i at instance.operands.items (take (size_of i) (drop at memory)) =
    subst (λ m. IsCodedBy d i at instance.operands.items (take (size_of i) m)) e coded in
    let within : size_of i ≤ length (drop at memory) = coded_length d i at instance.operands.items (drop at memory) covered here in
    let few : sum i.coding.tokens ≤ 128 = few_bits d i covered in
    record {
      found = encodes_at d i memory at instance.instruction size instance.operands.items is sized here;
      size = omega (arith, length-take size (drop at memory), within, sized);
      most = omega (arith, few, sized);
      none = λ no. absurd (cc);
    }

-- what is answered where no instance stands at the address
pub decoded_none : (d : Description) (memory : List ℕ) (at : ℕ) → IsUndecodable d memory at → DecodesAt d memory at None
decoded_none d memory at none = record { found = tt; size = tt; most = tt; none = λ _. none }
