-- What parts without a fault have.
use Rattle.std.proofs.Common.{◌≡◌, ℕ, suc, ◌≤◌, ◌⊎◌, List, [], ◌∷◌, length, map, Bool, true, false, ◌&&◌, ◌||◌, not, if◌then◌else◌, Option, None, Some, refl, sym, subst, ◌∙◌, ap, arith, inl, inr, All, lit<, nat_eq, nat_le, IfSome, is_some}
use Rattle.std.specs.List.{AllByRecursion, list_any}
use Rattle.std.specs.Option.{option_map, option_or}
use Rattle.std.proofs.lemmas.Bool.{and_parts, not-true}
use Rattle.std.proofs.lemmas.Bool.Decides.{nat_tests}
use Rattle.std.proofs.lemmas.List.Elements.{All-from_recursion}
use Rattle.qc_terms.specs.declared.state.Facts.{Facts}
use Rattle.qc_descr.specs.declared.description.Instruction.{Instruction}
use Rattle.qc_descr.specs.declared.description.Space.{Space}
use Rattle.qc_descr.specs.declared.faults.DescrFault.{DescrFault}
use Rattle.qc_descr.specs.declared.faults.DescrFault.TheVariants.{BadLayout}
use Rattle.qc_descr.specs.declared.faults.Part.{Part}
use Rattle.qc_descr.specs.declared.faults.Part.TheVariants.{Word, Memory, Code, Data, Align, SlotBits, Frame, Link, Zero, Allocatable, Flags}
use Rattle.qc_descr.specs.declared.parts.Operation.{Operation}
use Rattle.qc_descr.specs.declared.sketch.Claim.{Claim}
use Rattle.qc_descr.specs.declared.sketch.Claim.TheVariants.{Free, Once, Several}
use Rattle.qc_descr.specs.declared.sketch.Parts.{Parts}
use Rattle.qc_descr.specs.declared.sketch.Sketch.{Sketch}
use Rattle.qc_descr.specs.CodingFaults.{Operands, bits_of_claims, first_overlap, is_covering, is_free, is_several, operands_of, operations_fault, sketch_fault, sketches_fault}
use Rattle.qc_descr.specs.Layout.{first_unfit, is_given_with, fits, unfit_part}
use Rattle.qc_descr.specs.Making.{AreSketched, AreSketches, AreWholeParts, IsFit, coding_of, facts_of, fault_of, first_coding, instructions_of}
use Rattle.qc_descr.specs.Inner.Overlaps.{HasBytes, own_fault}
use Rattle.qc_descr.specs.Parts.{width_or_32, word_of}

-- claims that are neither free nor double are bits
single_bits : (claims : List Claim) → list_any is_free claims ≡ false → list_any is_several claims ≡ false →
    length (bits_of_claims claims) ≡ length claims
single_bits [] f t = refl
single_bits (Free ∷ claims) f t = cc
single_bits (Once bit ∷ claims) f t = ap suc (single_bits claims f t)
single_bits (Several bits ∷ claims) f t = cc

-- four tests in a row that find nothing
tests_passed : (a m c t : Bool) (u v w x : DescrFault) →
    (if not a then Some u else if m then Some v else if not c then Some w else if t then Some x else None) ≡ None →
    (m ≡ false) × (c ≡ true) × (t ≡ false)
tests_passed false m c t u v w x h = cc
tests_passed true true c t u v w x h = cc
tests_passed true false false t u v w x h = cc
tests_passed true false true true u v w x h = cc
tests_passed true false true false u v w x h = (refl, refl, refl)

sketch_passed : (o : Operands) (number : ℕ) (s : Sketch) → sketch_fault o number s ≡ None →
    (s.misfit ≡ false) × (is_covering o s ≡ true) × (list_any is_several s.claims ≡ false)
unfolding sketch_fault
sketch_passed o number s h = tests_passed _ s.misfit (is_covering o s) (list_any is_several s.claims) _ _ _ _ h

fit_has_bytes : (o : Operands) (s : Sketch) → IsFit o s → is_covering o s ≡ true → list_any is_several s.claims ≡ false →
    HasBytes (coding_of s)
fit_has_bytes o s fit covering single = record {
  few = fit.few_tokens;
  tokens = fit.tokens;
  bits = single_bits s.claims (not-true _ (and_parts _ _ covering).0) single ∙ fit.claims;
}

sketch_has_bytes : (o : Operands) (number : ℕ) (s : Sketch) → (s.misfit ≡ true) ⊎ IsFit o s → sketch_fault o number s ≡ None →
    HasBytes (coding_of s)
sketch_has_bytes o number s (inl misfit) h =
    let other : s.misfit ≡ false = (sketch_passed o number s h).0 in cc
sketch_has_bytes o number s (inr fit) h =
    let passed : (s.misfit ≡ false) × (is_covering o s ≡ true) × (list_any is_several s.claims ≡ false) = sketch_passed o number s h in
    fit_has_bytes o s fit passed.1 passed.2

sketches_have_bytes : (o : Operands) (number : ℕ) (sketches : List Sketch) → AreSketches o sketches →
    sketches_fault o number sketches ≡ None → HasBytes (first_coding sketches)
sketches_have_bytes o number [] are h = cc
sketches_have_bytes o number (s ∷ []) are h = sketch_has_bytes o number s (are 0 s (lit< tt)) h
sketches_have_bytes o number (s ∷ t ∷ more) are h = cc

or_none : (a b : Option DescrFault) → option_or a b ≡ None → (a ≡ None) × (b ≡ None)
or_none None b h = (refl, h)
or_none (Some x) b h = cc

each_has_bytes : (word : ℕ) (spaces : List Space) (number : ℕ) (os : List Operation) (ss : List (List Sketch)) →
    AreSketched word spaces os ss → operations_fault word spaces number os ss ≡ None →
    AllByRecursion (λ i. HasBytes i.coding) (instructions_of os ss)
each_has_bytes word spaces number [] ss sketched h = tt
each_has_bytes word spaces number (o ∷ os) [] sketched h = tt
each_has_bytes word spaces number (o ∷ os) (s ∷ ss) sketched h =
    let none : (sketches_fault (operands_of word spaces o) number s ≡ None) × (operations_fault word spaces (suc number) os ss ≡ None) =
    or_none (sketches_fault (operands_of word spaces o) number s) (operations_fault word spaces (suc number) os ss) h in (
      sketches_have_bytes (operands_of word spaces o) number s sketched.0 none.0,
      each_has_bytes word spaces (suc number) os ss sketched.1 none.1,
    )

-- the codings of operations without a fault have bytes in memory
pub all_have_bytes : (word : ℕ) (spaces : List Space) (os : List Operation) (ss : List (List Sketch)) →
    AreSketched word spaces os ss → operations_fault word spaces 0 os ss ≡ None →
    All (λ i. HasBytes i.coding) (instructions_of os ss)
all_have_bytes word spaces os ss sketched h =
    All-from_recursion (λ (i : Instruction). HasBytes i.coding) (instructions_of os ss) (each_has_bytes word spaces 0 os ss sketched h)

-- their codings are those of the sketches
pub codings_are : (word : ℕ) (spaces : List Space) (os : List Operation) (ss : List (List Sketch)) → AreSketched word spaces os ss →
    map (λ i. i.coding) (instructions_of os ss) ≡ map first_coding ss
codings_are word spaces [] [] sketched = refl
codings_are word spaces [] (s ∷ ss) sketched = absurd sketched
codings_are word spaces (o ∷ os) [] sketched = absurd sketched
codings_are word spaces (o ∷ os) (s ∷ ss) sketched = ap (λ cs. first_coding s ∷ cs) (codings_are word spaces os ss sketched.1)

-- there are no more instructions than operations
pub no_more : (os : List Operation) (ss : List (List Sketch)) → length (instructions_of os ss) ≤ length os
no_more [] ss = omega arith
no_more (o ∷ os) [] = omega arith
no_more (o ∷ os) (s ∷ ss) = omega (arith, no_more os ss)

unfit_step : (b : Bool) (part : Part) (more : Option Part) → (if b then more else Some part) ≡ None → (b ≡ true) × (more ≡ None)
unfit_step true part more h = (refl, h)
unfit_step false part more h = cc

fits_none : (p : Parts) → unfit_part p ≡ None → (fits p Word ≡ true) × (fits p SlotBits ≡ true)
fits_none p h =
    let word : (fits p Word ≡ true) × (first_unfit p (Memory ∷ Code ∷ Data ∷ Align ∷ SlotBits ∷ Frame ∷ Link ∷ Zero ∷ Allocatable ∷ Flags ∷ []) ≡ None) = unfit_step (fits p Word) Word _ h in
    let memory : (fits p Memory ≡ true) × (first_unfit p (Code ∷ Data ∷ Align ∷ SlotBits ∷ Frame ∷ Link ∷ Zero ∷ Allocatable ∷ Flags ∷ []) ≡ None) = unfit_step (fits p Memory) Memory _ word.1 in
    let code : (fits p Code ≡ true) × (first_unfit p (Data ∷ Align ∷ SlotBits ∷ Frame ∷ Link ∷ Zero ∷ Allocatable ∷ Flags ∷ []) ≡ None) = unfit_step (fits p Code) Code _ memory.1 in
    let «data» : (fits p Data ≡ true) × (first_unfit p (Align ∷ SlotBits ∷ Frame ∷ Link ∷ Zero ∷ Allocatable ∷ Flags ∷ []) ≡ None) = unfit_step (fits p Data) Data _ code.1 in
    let align : (fits p Align ≡ true) × (first_unfit p (SlotBits ∷ Frame ∷ Link ∷ Zero ∷ Allocatable ∷ Flags ∷ []) ≡ None) = unfit_step (fits p Align) Align _ «data».1 in
    let slot_bits : (fits p SlotBits ≡ true) × (first_unfit p (Frame ∷ Link ∷ Zero ∷ Allocatable ∷ Flags ∷ []) ≡ None) = unfit_step (fits p SlotBits) SlotBits _ align.1 in
    (word.0, slot_bits.0)

few_bits_of_slots : (word bits : Option ℕ) (order : Bool) →
    is_given_with (λ w. nat_eq w 16 || nat_eq w 32) word && order ≡ true →
    is_given_with (λ n. nat_le 4 n && nat_le n (width_or_32 word)) bits ≡ true → IfSome bits (λ n. n ≤ 32)
few_bits_of_slots word None order h k = tt
few_bits_of_slots None (Some n) order h k = cc
few_bits_of_slots (Some w) (Some n) order h k =
    let word : (nat_eq w 16 || nat_eq w 32) ≡ true = (and_parts _ order h).0 in
    grind (arith, nat_tests)

-- the number of bits of a slot is at most that of a word
few_slot_bits : (p : Parts) → unfit_part p ≡ None → IfSome p.given.slot_bits (λ n. n ≤ 32)
unfolding fits
few_slot_bits p h =
    let parts : (fits p Word ≡ true) × (fits p SlotBits ≡ true) = fits_none p h in
    few_bits_of_slots p.given.word p.given.slot_bits (is_some p.given.order) parts.0 parts.1

layout_none : (a : Option Part) (b : Option DescrFault) → option_or (option_map BadLayout a) b ≡ None → (a ≡ None) × (b ≡ None)
layout_none None b h = (refl, h)
layout_none (Some part) b h = cc

or_own : (a : Option Part) (b c : Option DescrFault) → option_or (option_map BadLayout a) b ≡ None →
    option_or (option_map BadLayout a) (option_or b c) ≡ c
or_own None None c h = refl
or_own None (Some fault) c h = cc
or_own (Some part) b c h = cc

sketched_length : (word : ℕ) (spaces : List Space) (os : List Operation) (ss : List (List Sketch)) → AreSketched word spaces os ss →
    length os ≡ length ss
sketched_length word spaces [] [] sketched = refl
sketched_length word spaces [] (s ∷ ss) sketched = absurd sketched
sketched_length word spaces (o ∷ os) [] sketched = absurd sketched
sketched_length word spaces (o ∷ os) (s ∷ ss) sketched = ap suc (sketched_length word spaces os ss sketched.1)

-- there are sketches for each operation
pub whole_length : (p : Parts) → AreWholeParts p → length p.operations ≡ length p.sketches
whole_length p whole = sketched_length (word_of p.given) p.spaces p.operations p.sketches whole.sketched

-- what parts without a fault of their own make: instructions that have bytes in memory
pub whole_bytes : (p : Parts) → AreWholeParts p → own_fault p ≡ None → All (λ i. HasBytes i.coding) (instructions_of p.operations p.sketches)
whole_bytes p whole h =
    all_have_bytes (word_of p.given) p.spaces p.operations p.sketches whole.sketched (layout_none (unfit_part p) _ h).1

pub whole_few : (p : Parts) → AreWholeParts p → length (instructions_of p.operations p.sketches) ≤ 256
whole_few p whole = omega (arith, no_more p.operations p.sketches, whole.parts.few_operations)

pub whole_slot_bits : (p : Parts) → own_fault p ≡ None → IfSome p.given.slot_bits (λ n. n ≤ 32)
whole_slot_bits p h = few_slot_bits p (layout_none (unfit_part p) _ h).0

-- the fault of parts that have none of their own is that of the instructions
overlap_is_fault : (p : Parts) → AreWholeParts p → own_fault p ≡ None →
    fault_of p ≡ first_overlap (facts_of p.given).order 0 (map (λ i. i.coding) (instructions_of p.operations p.sketches))
overlap_is_fault p whole h =
    or_own (unfit_part p) _ _ h
    ∙ ap (first_overlap (facts_of p.given).order 0) (sym (codings_are (word_of p.given) p.spaces p.operations p.sketches whole.sketched))

pub whole_fault : (p : Parts) (is : List Instruction) (facts : Facts) → AreWholeParts p → own_fault p ≡ None →
    is ≡ instructions_of p.operations p.sketches → facts ≡ facts_of p.given →
    fault_of p ≡ first_overlap facts.order 0 (map (λ i. i.coding) is)
whole_fault p is facts whole own made told =
    subst (λ (f : Facts). fault_of p ≡ first_overlap f.order 0 (map (λ i. i.coding) is)) (sym told)
    (subst (λ (xs : List Instruction). fault_of p ≡ first_overlap (facts_of p.given).order 0 (map (λ i. i.coding) xs)) (sym made)
    (overlap_is_fault p whole own))

-- the first of three is the first of two of them, where these have one
first_of_two : {A : Type 0} (a b c : Option A) (x : A) → option_or a b ≡ Some x → option_or a (option_or b c) ≡ Some x
first_of_two (Some y) b c x e = e
first_of_two None (Some y) c x e = e
first_of_two None None c x e = cc e

-- the fault of parts is that which is found before overlaps are looked for, where there is one
pub own_fault_first : (p : Parts) (fault : DescrFault) → own_fault p ≡ Some fault → fault_of p ≡ Some fault
own_fault_first p fault e =
    first_of_two (option_map BadLayout (unfit_part p))
    (operations_fault (word_of p.given) p.spaces 0 p.operations p.sketches)
    (first_overlap (facts_of p.given).order 0 (map first_coding p.sketches)) fault e
