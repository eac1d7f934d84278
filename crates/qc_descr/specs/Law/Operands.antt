-- The operands of an instruction by their numbers, and their coded values.
use Rattle.std.proofs.Common.{◌≡◌, ℕ, zero, suc, ◌+◌, ◌-◌, ◌*◌, ◌<◌, ◌≤◌, ◌^◌, List, [], ◌∷◌, ◌++◌, length, map, take, get_or, cond, Some, refl, sym, ◌∙◌, ap, subst, arith, inl, inr}
use Rattle.std.specs.Prelude.{slice_index}
use Rattle.std.specs.Option.{option_map}
use Rattle.std.specs.List.{slice_get}
use Rattle.std.proofs.lemmas.Bool.{cases_lt, le-leb, lt-leb}
use Rattle.std.proofs.lemmas.List.{take_more}
use Rattle.std.proofs.lemmas.Option.{get_or_from_slice_get, slice_get-map, slice_get_read, slice_get_within}
use Rattle.qc_lists.specs.Law.Powers.{twice_half}
use Rattle.qc_descr.specs.declared.coding.Reach.{Reach}
use Rattle.qc_descr.specs.declared.coding.Reach.TheVariants.{Plain, Relative, Absolute}
use Rattle.qc_descr.specs.declared.description.Description.{Description}
use Rattle.qc_descr.specs.declared.description.Instruction.{Instruction}
use Rattle.qc_descr.specs.declared.description.OperandKind.{OperandKind}
use Rattle.qc_descr.specs.declared.description.OperandKind.TheVariants as kind
use Rattle.qc_descr.specs.Description.{AreInRange, IsInRange, kinds_of}
use Rattle.qc_descr.specs.Reach.{HasFewBits, IsReached, coded_operands, coded_value, relative_value}
use Rattle.qc_descr.specs.Valid.{HasLayout, HasSize, HaveSizes, MayDrop}

-- an operand's reach and size, by its number
pub record SizedAt (d : Description) (k : OperandKind) (reaches : List Reach) (sizes dropped : List ℕ) (number : ℕ) : Type 0 where
  pub reach : Reach
  pub is : slice_get reaches number ≡ Some reach
  pub within : number < length sizes
  pub size : HasSize d k reach (slice_index sizes number)
  pub drops : MayDrop k (slice_index sizes number) (slice_index dropped number)

pub sized_at : (d : Description) (kinds : List OperandKind) (reaches : List Reach) (sizes dropped : List ℕ) (number : ℕ) (k : OperandKind) →
    HaveSizes d kinds reaches sizes dropped → slice_get kinds number ≡ Some k → SizedAt d k reaches sizes dropped number
sized_at d [] reaches sizes dropped number k sized h = cc
sized_at d (j ∷ kinds) [] sizes dropped number k sized h = absurd sized
sized_at d (j ∷ kinds) (r ∷ reaches) [] dropped number k sized h = absurd sized
sized_at d (j ∷ kinds) (r ∷ reaches) (size ∷ sizes) [] number k sized h = absurd sized
sized_at d (j ∷ kinds) (r ∷ reaches) (size ∷ sizes) (n ∷ dropped) zero k sized h =
    let same : j ≡ k = cc in
    record {
      reach = r;
      is = refl;
      within = omega arith;
      size = subst (λ x. HasSize d x r size) same sized.0;
      drops = subst (λ x. MayDrop x size n) same sized.1;
    }
sized_at d (j ∷ kinds) (r ∷ reaches) (size ∷ sizes) (n ∷ dropped) (suc number) k sized h =
    let rest : SizedAt d k reaches sizes dropped number = sized_at d kinds reaches sizes dropped number k sized.2 h in
    record { reach = rest.reach; is = rest.is; within = omega (arith, rest.within); size = rest.size; drops = rest.drops }

-- as many reaches as operands
pub length-reaches : (d : Description) (kinds : List OperandKind) (reaches : List Reach) (sizes dropped : List ℕ) →
    HaveSizes d kinds reaches sizes dropped → length reaches ≡ length kinds
length-reaches d [] [] [] [] sized = refl
length-reaches d [] [] [] (n ∷ dropped) sized = absurd sized
length-reaches d [] [] (size ∷ sizes) dropped sized = absurd sized
length-reaches d [] (r ∷ reaches) sizes dropped sized = absurd sized
length-reaches d (k ∷ kinds) [] sizes dropped sized = absurd sized
length-reaches d (k ∷ kinds) (r ∷ reaches) [] dropped sized = absurd sized
length-reaches d (k ∷ kinds) (r ∷ reaches) (size ∷ sizes) [] sized = absurd sized
length-reaches d (k ∷ kinds) (r ∷ reaches) (size ∷ sizes) (n ∷ dropped) sized =
    ap suc (length-reaches d kinds reaches sizes dropped sized.2)

pub in_range_at : (d : Description) (kinds : List OperandKind) (xs : List ℕ) (number : ℕ) (k : OperandKind) → AreInRange d kinds xs →
    slice_get kinds number ≡ Some k → IsInRange d k (slice_index xs number)
in_range_at d [] xs number k range h = cc
in_range_at d (j ∷ kinds) [] number k range h = absurd range
in_range_at d (j ∷ kinds) (x ∷ xs) zero k range h =
    let same : j ≡ k = cc in
    subst (λ y. IsInRange d y x) same range.0
in_range_at d (j ∷ kinds) (x ∷ xs) (suc number) k range h = in_range_at d kinds xs number k range.1 h

pub length-in_range : (d : Description) (kinds : List OperandKind) (xs : List ℕ) → AreInRange d kinds xs → length xs ≡ length kinds
length-in_range d [] [] h = refl
length-in_range d [] (x ∷ xs) h = absurd h
length-in_range d (k ∷ kinds) [] h = absurd h
length-in_range d (k ∷ kinds) (x ∷ xs) h = ap suc (length-in_range d kinds xs h.1)

-- the operands so far, and one more
pub range_more : (d : Description) (kinds : List OperandKind) (xs : List ℕ) (k : OperandKind) (x : ℕ) → AreInRange d kinds xs → IsInRange d k x →
    AreInRange d (kinds ++ k ∷ []) (xs ++ x ∷ [])
range_more d [] [] k x h r = (r, tt)
range_more d [] (y ∷ xs) k x h r = absurd h
range_more d (j ∷ kinds) [] k x h r = absurd h
range_more d (j ∷ kinds) (y ∷ xs) k x h r = (h.0, range_more d kinds xs k x h.1 r)

pub range_take_more : (d : Description) (kinds : List OperandKind) (xs : List ℕ) (number : ℕ) (k : OperandKind) (x : ℕ) →
    slice_get kinds number ≡ Some k → AreInRange d (take number kinds) xs → IsInRange d k x → AreInRange d (take (number + 1) kinds) (xs ++ x ∷ [])
range_take_more d kinds xs number k x is h r =
    let more : take (number + 1) kinds ≡ take number kinds ++ k ∷ [] =
    take_more kinds number k (slice_get_within kinds number k is) ∙ ap (λ j. take number kinds ++ j ∷ []) (get_or_from_slice_get kinds number k k is) in
    subst (λ ks. AreInRange d ks (xs ++ x ∷ [])) (sym more) (range_more d (take number kinds) xs k x h r)

-- the kind of an operand that was read
pub kind_read : (i : Instruction) (os : List (List ℕ × OperandKind)) (number : ℕ) (o : List ℕ × OperandKind) → os ≡ i.operands → number < length os →
    o ≡ get_or os number o → slice_get (kinds_of i) number ≡ Some o.1
kind_read i os number o e within read =
    ap (λ ys. slice_get (map (λ (x : List ℕ × OperandKind). x.1) ys) number) (sym e)
    ∙ slice_get-map (λ (x : List ℕ × OperandKind). x.1) os number
    ∙ ap (option_map (λ (x : List ℕ × OperandKind). x.1)) (slice_get_read os (length os) number o refl within read)

-- a coded value, by its operand's number
pub coded_at : (reaches : List Reach) (at : ℕ) (xs : List ℕ) (number : ℕ) (reach : Reach) → slice_get reaches number ≡ Some reach → number < length xs →
    slice_index (coded_operands reaches at xs) number ≡ coded_value reach at (slice_index xs number)
coded_at [] at xs number reach is within = cc
coded_at (r ∷ reaches) at [] number reach is within = absurd (omega arith)
coded_at (r ∷ reaches) at (x ∷ xs) zero reach is within =
    let same : r ≡ reach = cc in ap (λ y. coded_value y at x) same
coded_at (r ∷ reaches) at (x ∷ xs) (suc number) reach is within = coded_at reaches at xs number reach is (omega arith)

pub length-coded : (reaches : List Reach) (at : ℕ) (xs : List ℕ) → length xs ≡ length reaches → length (coded_operands reaches at xs) ≡ length xs
length-coded [] at [] e = refl
length-coded [] at (x ∷ xs) e = absurd (omega (arith, e))
length-coded (r ∷ reaches) at [] e = refl
length-coded (r ∷ reaches) at (x ∷ xs) e = ap suc (length-coded reaches at xs (omega (arith, e)))

relative_after : (bits at target : ℕ) → at ≤ target → relative_value bits at target ≡ target - at
relative_after bits at target h = ap (λ t. cond t (target - at) (2 ^ bits - (at - target))) (le-leb at target h)

relative_before : (bits at target : ℕ) → target < at → relative_value bits at target ≡ 2 ^ bits - (at - target)
relative_before bits at target h = ap (λ t. cond t (target - at) (2 ^ bits - (at - target))) (lt-leb at target h)

-- How far a target within reach is: at most half of the numbers of so many bits are before, and the others behind.
pub relative_is : (bits half at target v : ℕ) → 2 ^ bits ≡ 2 * half → target < at + half → at ≤ target + half → v ≡ relative_value bits at target →
    (v < 2 * half) × ((v < half → target ≡ at + v) × (half ≤ v → target + 2 * half ≡ at + v))
relative_is bits half at target v e before behind is =
    elim (cases_lt target at) [
      | inl less ↦
          let there : v ≡ 2 ^ bits - (at - target) = is ∙ relative_before bits at target less in
          let here : v ≡ 2 * half - (at - target) = there ∙ ap (λ n. n - (at - target)) e in
          (omega arith, (λ h. omega (arith, h), λ h. omega (arith, h)))
      | inr more ↦
          let here : v ≡ target - at = is ∙ relative_after bits at target more in
          (omega arith, (λ h. omega (arith, h), λ h. omega (arith, h)))
    ]

-- within its reach an operand is determined by its coded value
pub reached_once : (d : Description) (k : OperandKind) (reach : Reach) (size at x y : ℕ) → HasSize d k reach size →
    IsReached reach at x → IsReached reach at y → coded_value reach at x ≡ coded_value reach at y → x ≡ y
reached_once d k Plain size at x y has a b e = e
reached_once d k (Absolute bits) size at x y has a b e = e
reached_once d (kind.Register space) (Relative bits) size at x y has a b e = absurd has
reached_once d (kind.Imm width) (Relative bits) size at x y has a b e = absurd has
reached_once d kind.Addr (Relative bits) size at x y has a b e =
    let twice : 2 ^ bits ≡ 2 * 2 ^ (bits - 1) = twice_half bits has.0 in
    let one = relative_is bits (2 ^ (bits - 1)) at x (relative_value bits at x) twice a.0 a.1 refl in
    let other = relative_is bits (2 ^ (bits - 1)) at y (relative_value bits at x) twice b.0 b.1 e in
    elim (cases_lt (relative_value bits at x) (2 ^ (bits - 1))) [
      | inl less ↦ one.1.0 less ∙ sym (other.1.0 less)
      | inr more ↦ omega (arith, one.1.1 more, other.1.1 more)
    ]

-- a word has 32 bits at most
pub word_bits : (d : Description) → HasLayout d → d.facts.word ≤ 32
word_bits d layout = elim layout.word [ inl narrow ↦ omega (arith, narrow) | inr wide ↦ omega (arith, wide) ]

-- an address has few bits, as many as a word at most
pub has_few_bits : (d : Description) (k : OperandKind) (reach : Reach) (size : ℕ) → HasLayout d → HasSize d k reach size → HasFewBits reach
has_few_bits d k Plain size layout has = tt
has_few_bits d (kind.Register space) (Relative bits) size layout has = absurd has
has_few_bits d (kind.Imm width) (Relative bits) size layout has = absurd has
has_few_bits d kind.Addr (Relative bits) size layout has = (has.0, omega (arith, has.1, word_bits d layout))
has_few_bits d (kind.Register space) (Absolute bits) size layout has = absurd has
has_few_bits d (kind.Imm width) (Absolute bits) size layout has = absurd has
has_few_bits d kind.Addr (Absolute bits) size layout has = (has.0, omega (arith, has.1, word_bits d layout))
