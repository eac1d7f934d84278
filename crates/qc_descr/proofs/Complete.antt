-- Parts that leave nothing open have no fault where their description is valid.
use Rattle.std.proofs.Common.{◌≡◌, ℕ, zero, suc, ◌+◌, ◌^◌, ◌≤◌, ◌<◌, ◌⊎◌, List, [], ◌∷◌, length, map, Bool, true, false, not, ◌&&◌, cond, count_by, nat_lt, if◌then◌else◌, None, Some, unwrap_or, slice_index, refl, sym, ◌∙◌, ap, subst, inl, inr, arith, ⊎_elim, add-zero, zero-add}
use Rattle.std.specs.Prelude.{All, ◌%◌}
use Rattle.std.specs.List.{AllByRecursion, list_all, list_any}
use Rattle.std.proofs.Math.Nat.{one-le-pow, pow-suc}
use Rattle.std.proofs.Math.Pow.{pow_mono}
use Rattle.std.proofs.lemmas.Bool.{and_from, and_parts, both_ways, cases_Bool, cases_eq, eq-eqb, eqb-true, false≢true, lt-ltb, ltb-true, not-true, or_cases, or_right}
use Rattle.std.proofs.lemmas.List.Elements.{All-head, All-map, All-tail, recursion_from_All}
use Rattle.std.proofs.lemmas.List.Sums.{sum_by-cons}
use Rattle.qc_terms.specs.declared.state.Order.{Order}
use Rattle.qc_descr.specs.declared.coding.Bit.{Bit}
use Rattle.qc_descr.specs.declared.coding.Coding.{Coding}
use Rattle.qc_descr.specs.declared.coding.Reach.{Reach}
use Rattle.qc_descr.specs.declared.coding.Reach.TheVariants.{Plain, Relative, Absolute}
use Rattle.qc_descr.specs.declared.description.Description.{Description}
use Rattle.qc_descr.specs.declared.description.Instruction.{Instruction}
use Rattle.qc_descr.specs.declared.description.OperandKind.{OperandKind}
use Rattle.qc_descr.specs.declared.description.OperandKind.TheVariants as kind
use Rattle.qc_descr.specs.declared.description.Space.{Space}
use Rattle.qc_descr.specs.declared.parts.Operation.{Operation}
use Rattle.qc_descr.specs.declared.sketch.Claim.{Claim}
use Rattle.qc_descr.specs.declared.sketch.Claim.TheVariants.{Free, Once, Several}
use Rattle.qc_descr.specs.declared.sketch.Parts.{Parts}
use Rattle.qc_descr.specs.declared.sketch.Sketch.{Sketch}
use Rattle.qc_descr.specs.Coding.{bytes_differ, is_piece, memory_bytes}
use Rattle.qc_descr.specs.CodingFaults.{Operands, all_dropped, all_stand_if_sized, all_suit, bits_of_claims, dropped_bits, first_overlap, is_covering, is_free, is_several, missing_from, operand_size, operand_sizes, operands_of, operation_kinds, operations_fault, overlap_with, sketch_fault, suits}
use Rattle.qc_descr.specs.Complete.{AreComplete, is_once, is_one}
use Rattle.qc_descr.specs.Description.{size_of}
use Rattle.qc_descr.specs.Inner.Standing.{bit_is_right, operand_is_right}
use Rattle.qc_descr.specs.Law.Bits.{any_counted, below_of_all}
use Rattle.qc_descr.specs.Layout.{is_aligned, unfit_part}
use Rattle.qc_descr.specs.Making.{AreSketched, AreSketches, AreWholeParts, IsFit, description_of, facts_of, fault_of, first_coding, instructions_of}
use Rattle.qc_descr.specs.Parts.{HasSpace, IsOperation, word_of}
use Rattle.qc_descr.specs.Valid.{HasSize, HaveSizes, IsCovered, IsValid, IsValidInstruction, MayDrop, all_differ, stands_once}
use Rattle.qc_descr.proofs.Covered.{AreBefore, has_size, instruction_of, sizes_before}
use Rattle.qc_descr.proofs.Fitting.{laid_fit, none_unfit}
use Rattle.qc_descr.proofs.Made.{same_codings}

-- codings that differ have no overlap
apart_from : (order : Order) (a b : ℕ) (c : Coding) (cs : List Coding) →
    list_all (λ other. bytes_differ (memory_bytes order c) (memory_bytes order other)) cs ≡ true → overlap_with order a c b cs ≡ None
apart_from order a b c [] h = refl
apart_from order a b c (x ∷ cs) h =
    let parts = and_parts (bytes_differ (memory_bytes order c) (memory_bytes order x)) (list_all (λ other. bytes_differ (memory_bytes order c) (memory_bytes order other)) cs) h in
    rw parts.0 (apart_from order a (suc b) c cs parts.1)

none_overlap : (order : Order) (a : ℕ) (cs : List Coding) → all_differ order cs ≡ true → first_overlap order a cs ≡ None
none_overlap order a [] h = refl
none_overlap order a (c ∷ cs) h =
    let parts = and_parts (list_all (λ other. bytes_differ (memory_bytes order c) (memory_bytes order other)) cs) (all_differ order cs) h in
    rw (apart_from order a (suc a) c cs parts.0) (none_overlap order (suc a) cs parts.1)

-- reaches that give operands sizes suit them
suit_one : (d : Description) (k : OperandKind) (reach : Reach) (size : ℕ) → HasSize d k reach size → suits k reach ≡ true
suit_one d (kind.Register space) Plain size h = refl
suit_one d (kind.Imm width) Plain size h = refl
suit_one d kind.Addr (Relative bits) size h = refl
suit_one d kind.Addr (Absolute bits) size h = refl
suit_one d _ _ size h = absurd h

suit_all : (d : Description) (kinds : List OperandKind) (reaches : List Reach) (sizes dropped : List ℕ) →
    HaveSizes d kinds reaches sizes dropped → all_suit kinds reaches ≡ true
suit_all d [] [] [] [] h = refl
suit_all d (k ∷ kinds) (reach ∷ reaches) (size ∷ sizes) (n ∷ dropped) h =
    and_from (suits k reach) (all_suit kinds reaches) (suit_one d k reach size h.0) (suit_all d kinds reaches sizes dropped h.2)
suit_all d _ _ _ _ h = absurd h

-- an operand has one size
below_pow : (m n : ℕ) → m < n → 2 ^ m < 2 ^ n
below_pow m n h =
    let more : suc m ≤ n = omega arith in
    omega (arith, pow_mono more, pow-suc 2 m, one-le-pow m 2 (omega arith))

same_pow : (m n : ℕ) → 2 ^ m ≡ 2 ^ n → m ≡ n
same_pow m n h = elim (cases_eq m n) [
  | inl same ↦ same
  | inr other ↦ elim (cases_Bool (nat_lt m n)) [
    | inl less ↦ absurd (omega (arith, h, below_pow m n (ltb-true m n less)))
    | inr more ↦
        let above : n < m = grind (arith, more, other) in
        absurd (omega (arith, h, below_pow n m above))
  ]
]

one_size : (d : Description) (k : OperandKind) (reach : Reach) (m n : ℕ) → HasSize d k reach m → HasSize d k reach n → m ≡ n
one_size d (kind.Register space) Plain m n h k = same_pow m n (sym h.1 ∙ k.1)
one_size d (kind.Imm width) Plain m n h k = h ∙ sym k
one_size d kind.Addr (Relative bits) m n h k = h.2 ∙ sym k.2
one_size d kind.Addr (Absolute bits) m n h k = h.2 ∙ sym k.2
one_size d _ _ m n h k = absurd h

same_sizes : (d : Description) (kinds : List OperandKind) (reaches : List Reach) (sizes dropped found : List ℕ) →
    AllByRecursion (HasSpace d.spaces) kinds → HaveSizes d kinds reaches sizes dropped →
    operand_sizes d.facts.word d.spaces kinds reaches ≡ Some found → sizes ≡ found
same_sizes d [] [] [] [] found spaces h is = cc
same_sizes d (k ∷ kinds) (reach ∷ reaches) (size ∷ sizes) (n ∷ dropped) found spaces h is =
    let both : AreBefore (operand_size d.facts.word d.spaces k reach) (operand_sizes d.facts.word d.spaces kinds reaches) found =
    sizes_before _ _ found is in
    ap (λ m. m ∷ sizes) (one_size d k reach size both.size h.0 (has_size d k reach both.size spaces.0 both.is))
    ∙ ap (λ ms. both.size ∷ ms) (same_sizes d kinds reaches sizes dropped both.more spaces.1 h.2 both.are)
    ∙ sym both.both
same_sizes d _ _ _ _ found spaces h is = absurd h

-- a bit that is found is counted
found_counts : (test : Bit → Bool) (bits : List Bit) → list_any test bits ≡ true → 1 ≤ count_by test bits
found_counts test [] some = absurd (false≢true some)
found_counts test (b ∷ bits) some =
    let count : count_by test (b ∷ bits) ≡ cond (test b) 1 0 + count_by test bits = sum_by-cons (λ x. cond (test x) 1 0) b bits in
    elim (or_cases (test b) (list_any test bits) some) [
      | inl here ↦
          let one : ◌≡◌ {A = ℕ} (cond (test b) 1 0) 1 = ap (λ t. cond t 1 0) here in
          omega (arith, count, one)
      | inr there ↦ omega (arith, count, found_counts test bits there)
    ]

not_found : (test : Bit → Bool) (bits : List Bit) → count_by test bits ≡ 0 → list_any test bits ≡ false
not_found test bits none = elim (cases_Bool (list_any test bits)) [
  | inl some ↦ absurd (omega (arith, none, found_counts test bits some))
  | inr other ↦ other
]

-- the number of missing bits, where it is known which bits stand
missing_is : (operand : ℕ) (bits : List Bit) (from count n : ℕ) → n ≤ count →
    ((b : ℕ) → b < n → list_any (is_piece operand (from + b)) bits ≡ false) →
    (n < count → list_any (is_piece operand (from + n)) bits ≡ true) → missing_from operand bits from count ≡ n
unfolding missing_from
missing_is operand bits from zero n few absent here = omega (arith, few)
missing_is operand bits from (suc count) zero few absent here =
    let stands : list_any (is_piece operand from) bits ≡ true =
    subst (λ m. list_any (is_piece operand m) bits ≡ true) (add-zero from) (here (omega arith)) in
    rw stands refl
missing_is operand bits from (suc count) (suc n) few absent here =
    let first : list_any (is_piece operand from) bits ≡ false =
    subst (λ m. list_any (is_piece operand m) bits ≡ false) (add-zero from) (absent 0 (omega arith)) in
    let shift : (b : ℕ) → from + suc b ≡ suc from + b = λ b. omega arith in
    rw first (ap suc (missing_is operand bits (suc from) count n (omega (arith, few))
    (λ b less. subst (λ m. list_any (is_piece operand m) bits ≡ false) (shift b) (absent (suc b) (omega (arith, less))))
    (λ less. subst (λ m. list_any (is_piece operand m) bits ≡ true) (shift n) (here (omega (arith, less))))))

-- a bit that is right, by whether it is dropped
right_dropped : (operand n b : ℕ) (bits : List Bit) → bit_is_right operand n bits b ≡ true → b < n → list_any (is_piece operand b) bits ≡ false
right_dropped operand n b bits right less =
    let count : count_by (is_piece operand b) bits ≡ (if nat_lt b n then 0 else 1) = eqb-true _ _ right in
    let none : ◌≡◌ {A = ℕ} (if nat_lt b n then 0 else 1) 0 = ap (λ (t : Bool). if t then 0 else 1) (lt-ltb b n less) in
    not_found (is_piece operand b) bits (count ∙ none)

right_kept : (operand n : ℕ) (bits : List Bit) → bit_is_right operand n bits n ≡ true → list_any (is_piece operand n) bits ≡ true
right_kept operand n bits right =
    let count : count_by (is_piece operand n) bits ≡ (if nat_lt n n then 0 else 1) = eqb-true _ _ right in
    let one : count_by (is_piece operand n) bits ≡ 1 = elim (cases_Bool (nat_lt n n)) [
      | inl less ↦ absurd (omega (arith, ltb-true n n less))
      | inr same ↦ count ∙ ap (λ (t : Bool). if t then 0 else 1) same
    ] in
    any_counted (is_piece operand n) bits (omega (arith, one))

dropped_one : (k : OperandKind) (operand : ℕ) (bits : List Bit) (size n : ℕ) → MayDrop k size n →
    ((b : ℕ) → b < size → bit_is_right operand n bits b ≡ true) → dropped_bits k operand bits size ≡ n
dropped_one (kind.Register space) operand bits size n may right = sym may
dropped_one (kind.Imm width) operand bits size n may right = sym may
dropped_one kind.Addr operand bits size n may right =
    missing_is operand bits 0 size n may
    (λ b less. subst (λ m. list_any (is_piece operand m) bits ≡ false) (sym (zero-add b))
    (right_dropped operand n b bits (right b (omega (arith, less, may))) less))
    (λ less. subst (λ m. list_any (is_piece operand m) bits ≡ true) (sym (zero-add n)) (right_kept operand n bits (right n less)))

-- the dropped bits that are counted are those of a covered coding; the operands after the first ones have these sizes
dropped_all : (d : Description) (kinds : List OperandKind) (reaches : List Reach) (sizes dropped : List ℕ) (operand : ℕ) (bits : List Bit) →
    HaveSizes d kinds reaches sizes dropped →
    ((o b : ℕ) → o < length sizes → b < slice_index sizes o → bit_is_right (operand + o) (slice_index dropped o) bits b ≡ true) →
    all_dropped kinds operand bits sizes ≡ dropped
dropped_all d [] [] [] [] operand bits h right = refl
dropped_all d (k ∷ kinds) (reach ∷ reaches) (size ∷ sizes) (n ∷ dropped) operand bits h right =
    let shift : (o : ℕ) → operand + suc o ≡ suc operand + o = λ o. omega arith in
    ap (λ m. m ∷ all_dropped kinds (suc operand) bits sizes)
    (dropped_one k operand bits size n h.1
    (λ b less. subst (λ m. bit_is_right m n bits b ≡ true) (add-zero operand) (right 0 b (omega arith) less)))
    ∙ ap (λ ms. n ∷ ms) (dropped_all d kinds reaches sizes dropped (suc operand) bits h.2
    (λ o b within less. subst (λ m. bit_is_right m (slice_index dropped o) bits b ≡ true) (shift o) (right (suc o) b (omega (arith, within)) less)))
dropped_all d _ _ _ _ operand bits h right = absurd h

-- claims that each say one thing
none_free : (claims : List Claim) → list_all is_once claims ≡ true → list_any is_free claims ≡ false
none_free [] h = refl
none_free (Free ∷ claims) h = absurd (false≢true h)
none_free (Once bit ∷ claims) h = none_free claims h
none_free (Several bits ∷ claims) h = absurd (false≢true h)

none_several : (claims : List Claim) → list_all is_once claims ≡ true → list_any is_several claims ≡ false
none_several [] h = refl
none_several (Free ∷ claims) h = absurd (false≢true h)
none_several (Once bit ∷ claims) h = none_several claims h
none_several (Several bits ∷ claims) h = absurd (false≢true h)

-- a covered coding of an alternative stands as it should by the sizes that are found
standing : (d : Description) (o : Operation) (s : Sketch) → AllByRecursion (HasSpace d.spaces) (operation_kinds o) →
    IsFit (operands_of d.facts.word d.spaces o) s → (covered : IsCovered d (instruction_of o s)) →
    all_stand_if_sized (operation_kinds o) (operand_sizes d.facts.word d.spaces (operation_kinds o) s.reaches) (bits_of_claims s.claims) ≡ true
standing d o s spaces fit covered =
    let kinds : List OperandKind = operation_kinds o in
    let bits : List Bit = bits_of_claims s.claims in
    let same : covered.sizes ≡ fit.sizes = same_sizes d kinds s.reaches covered.sizes covered.dropped fit.sizes spaces covered.sized fit.sized in
    let dropped : all_dropped kinds 0 bits covered.sizes ≡ covered.dropped =
    dropped_all d kinds s.reaches covered.sizes covered.dropped 0 bits covered.sized
    (λ operand b within less. subst (λ m. bit_is_right m (slice_index covered.dropped operand) bits b ≡ true) (sym (zero-add operand))
    (below_of_all (slice_index covered.sizes operand) (bit_is_right operand (slice_index covered.dropped operand) bits) b
    (below_of_all (length covered.sizes) (operand_is_right covered.sizes covered.dropped bits) operand covered.once within) less)) in
    subst (λ found. all_stand_if_sized kinds found bits ≡ true) (sym fit.sized ∙ refl)
    (subst (λ sizes. stands_once sizes (all_dropped kinds 0 bits sizes) bits ≡ true) same
    (subst (λ xs. stands_once covered.sizes xs bits ≡ true) (sym dropped) covered.once))

-- an alternative of a valid instruction has no fault
faultless : (d : Description) (o : Operation) (number : ℕ) (s : Sketch) → AllByRecursion (HasSpace d.spaces) (operation_kinds o) →
    IsFit (operands_of d.facts.word d.spaces o) s → s.misfit ≡ false → list_all is_once s.claims ≡ true → IsCovered d (instruction_of o s) →
    sketch_fault (operands_of d.facts.word d.spaces o) number s ≡ None
unfolding sketch_fault
faultless d o number s spaces fit fits once covered =
    let all : Operands = operands_of d.facts.word d.spaces o in
    let suit : all_suit all.kinds s.reaches ≡ true = suit_all d all.kinds s.reaches covered.sizes covered.dropped covered.sized in
    let covers : is_covering all s ≡ true =
    and_from _ _ (ap not (none_free s.claims once)) (standing d o s spaces fit covered) in
    rw suit (rw fits (rw covers (rw (none_several s.claims once) refl)))

-- a fit alternative, unless it is told to be misfit
is_fit : (o : Operands) (s : Sketch) → s.misfit ≡ false → AreSketches o (s ∷ []) → IsFit o s
is_fit o s fits sketches =
    ⊎_elim (λ misfit. absurd (both_ways _ fits misfit)) (λ fit. fit) (All-head (λ s. (s.misfit ≡ true) ⊎ IsFit o s) s [] sketches)

-- the operations of valid instructions have no fault
all_faultless : (p : Parts) (number : ℕ) (os : List Operation) (ss : List (List Sketch)) → All (IsOperation p.given p.spaces) os →
    AreSketched (word_of p.given) p.spaces os ss → list_all is_one ss ≡ true →
    All (IsValidInstruction (description_of p)) (instructions_of os ss) → operations_fault (word_of p.given) p.spaces number os ss ≡ None
all_faultless p number [] ss each sketched one valid = refl
all_faultless p number (o ∷ os) [] each sketched one valid = refl
all_faultless p number (o ∷ os) ([] ∷ ss) each sketched one valid = absurd (false≢true one)
all_faultless p number (o ∷ os) ((s ∷ t ∷ more) ∷ ss) each sketched one valid = absurd (false≢true one)
all_faultless p number (o ∷ os) ((s ∷ []) ∷ ss) each sketched one valid =
    let d : Description = description_of p in
    let rest = and_parts (not s.misfit && list_all is_once s.claims) (list_all is_one ss) one in
    let own = and_parts (not s.misfit) (list_all is_once s.claims) rest.0 in
    let fits : s.misfit ≡ false = not-true _ own.0 in
    let is : IsOperation p.given p.spaces o = All-head (IsOperation p.given p.spaces) o os each in
    let spaces : AllByRecursion (HasSpace p.spaces) (operation_kinds o) =
    recursion_from_All (HasSpace p.spaces) (operation_kinds o) (All-map (HasSpace p.spaces) (λ operand. operand.1) o.operands is.places) in
    let first : IsValidInstruction d (instruction_of o s) = All-head (IsValidInstruction d) (instruction_of o s) (instructions_of os ss) valid in
    let none : sketch_fault (operands_of (word_of p.given) p.spaces o) number s ≡ None =
    faultless d o number s spaces (is_fit _ s fits sketched.0) fits own.1 first.covered in
    rw none (all_faultless p (suc number) os ss (All-tail (IsOperation p.given p.spaces) o os each) sketched.1 rest.1
    (All-tail (IsValidInstruction d) (instruction_of o s) (instructions_of os ss) valid))

-- the only alternatives of aligned instructions are aligned
all_aligned : (align : ℕ) (word : ℕ) (spaces : List Space) (os : List Operation) (ss : List (List Sketch)) → AreSketched word spaces os ss →
    list_all is_one ss ≡ true → All (λ i. size_of i % align ≡ 0) (instructions_of os ss) → list_all (is_aligned align) ss ≡ true
all_aligned align word spaces [] [] sketched one each = refl
all_aligned align word spaces [] (s ∷ ss) sketched one each = absurd sketched
all_aligned align word spaces (o ∷ os) [] sketched one each = absurd sketched
all_aligned align word spaces (o ∷ os) ([] ∷ ss) sketched one each = absurd (false≢true one)
all_aligned align word spaces (o ∷ os) ((s ∷ t ∷ more) ∷ ss) sketched one each = absurd (false≢true one)
all_aligned align word spaces (o ∷ os) ((s ∷ []) ∷ ss) sketched one each =
    let rest = and_parts (not s.misfit && list_all is_once s.claims) (list_all is_one ss) one in
    let P : Instruction → Type 0 = λ i. size_of i % align ≡ 0 in
    and_from _ _ (or_right s.misfit _ (eq-eqb _ _ (All-head P (instruction_of o s) (instructions_of os ss) each)))
    (all_aligned align word spaces os ss sketched.1 rest.1 (All-tail P (instruction_of o s) (instructions_of os ss) each))

pub complete_faultless : (p : Parts) → AreWholeParts p → AreComplete p → IsValid (description_of p) → fault_of p ≡ None
complete_faultless p whole complete valid =
    let order : Order = (facts_of p.given).order in
    let aligned : list_all (is_aligned (unwrap_or p.given.align 1)) p.sketches ≡ true =
    all_aligned (unwrap_or p.given.align 1) (word_of p.given) p.spaces p.operations p.sketches whole.sketched complete.alternatives
    valid.layout.aligned in
    let layout : unfit_part p ≡ None = none_unfit p (laid_fit p complete valid.layout aligned) in
    let operations : operations_fault (word_of p.given) p.spaces 0 p.operations p.sketches ≡ None =
    all_faultless p 0 p.operations p.sketches whole.parts.each whole.sketched complete.alternatives valid.instructions in
    let overlaps : first_overlap order 0 (map first_coding p.sketches) ≡ None =
    none_overlap order 0 (map first_coding p.sketches)
    (subst (λ cs. all_differ order cs ≡ true) (same_codings (word_of p.given) p.spaces p.operations p.sketches whole.sketched) valid.differ) in
    rw layout (rw operations (rw overlaps refl))
