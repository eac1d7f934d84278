-- A code decodes into one list of instances.
use Rattle.std.proofs.Common.{◌≡◌, ◌≤◌, ℕ, ◌+◌, drop, replicate, List, [], ◌∷◌, ◌++◌, length, refl, sym, ap, ap₂, subst, ◌∙◌, arith, length-append}
use Rattle.std.proofs.Math.Seq.{drop-append_seam}
use Rattle.std.proofs.lemmas.List.{length-replicate}
use Rattle.qc_descr.specs.declared.description.Description.{Description}
use Rattle.qc_descr.specs.Encoding.{Encodes, InstanceOf, DecodesInto}
use Rattle.qc_descr.specs.Step.{EncodesAt, OneInstance}
use Rattle.qc_descr.specs.Valid.{IsCovered, IsValid}
use Rattle.qc_descr.specs.Reach.{coded_operands}
use Rattle.qc_descr.specs.Law.CodedBytes.{covered_at, length-coded_bytes, sum_least}

-- an instance has some bytes
some_bytes : (d : Description) (at number : ℕ) (operands bytes : List ℕ) → IsValid d → Encodes d at number operands bytes → 1 ≤ length bytes
some_bytes d at number operands bytes valid e =
    let covered : IsCovered d e.instruction = covered_at d number e.instruction valid e.is in
    let count = ap length e.coded.bytes_are
    ∙ length-coded_bytes d.facts.order e.instruction.coding (coded_operands e.instruction.coding.reaches at operands) covered.tokens in
    omega (arith, count, sum_least e.instruction.coding.tokens covered.tokens covered.some_token)

-- so a code that begins with an instance isn't empty
not_empty : (d : Description) (at : ℕ) (i : InstanceOf) (is : List InstanceOf) (code : List ℕ) → IsValid d → DecodesInto d at code (i ∷ is) → code ≡ [] → ⊥
not_empty d at i is code valid (bytes, more, encodes, split, rest) none =
    omega (arith, some_bytes d at i.number i.operands bytes valid encodes, ap length split, ap length none, length-append bytes more)

same_more : (xs ys more other : List ℕ) → xs ≡ ys → xs ++ more ≡ ys ++ other → more ≡ other
same_more xs ys more other same e =
    sym (drop-append_seam xs more) ∙ cc (same, e) ∙ drop-append_seam ys other

abbrev instruct_of : ℕ → List ℕ → InstanceOf
instruct_of number operands = record { number = number; operands = operands }

-- a code at an address, as a memory
abbrev memory_of : ℕ → List ℕ → List ℕ
memory_of at code = replicate at 0 ++ code

code_of_memory : (at : ℕ) (code : List ℕ) → drop at (memory_of at code) ≡ code
code_of_memory at code =
    subst (λ n. drop n (memory_of at code) ≡ code) (length-replicate at 0) (drop-append_seam (replicate at 0) code)

pub one_decoding : OneInstance → (d : Description) (at : ℕ) (code : List ℕ) (xs ys : List InstanceOf) → IsValid d →
    DecodesInto d at code xs → DecodesInto d at code ys → xs ≡ ys
one_decoding one d at code [] [] valid a b = refl
one_decoding one d at code [] (y ∷ ys) valid a b = absurd (not_empty d at y ys code valid b a)
one_decoding one d at code (x ∷ xs) [] valid a b = absurd (not_empty d at x xs code valid a b)
one_decoding one d at code (x ∷ xs) (y ∷ ys) valid (bytes, more, e, split, rest) (others, other, f, divided, left) =
    let memory : List ℕ = memory_of at code in
    let first : EncodesAt d memory at x.number x.operands bytes =
    record { encodes = e; more = more; prefix = code_of_memory at code ∙ split } in
    let second : EncodesAt d memory at y.number y.operands others =
    record { encodes = f; more = other; prefix = code_of_memory at code ∙ divided } in
    let same = one d memory at x.number y.number x.operands y.operands bytes others valid first second in
    let after : more ≡ other = same_more bytes others more other same.2 (sym split ∙ divided) in
    let head : x ≡ y = ap₂ instruct_of same.0 same.1 in
    let place : at + length others ≡ at + length bytes = ap (λ bs. at + length bs) (sym same.2) in
    let tail : DecodesInto d (at + length bytes) more ys =
    subst (λ n. DecodesInto d n more ys) place (subst (λ c. DecodesInto d (at + length others) c ys) (sym after) left) in
    ap₂ (λ i is. i ∷ is) head (one_decoding one d (at + length bytes) more xs ys valid rest tail)
