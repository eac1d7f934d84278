-- Each law is in the list of laws, and each place of a term at which a law matches in the list of its places.
use Rattle.std.proofs.Common.{arith, ◌≡◌, ◌<◌, ◌+◌, ◌∙◌, ℕ, suc, List, [], ◌∷◌, ◌++◌, Bool, true, false, cond, nat_eq, length, get_or, Option, None, Some, refl, ap, sym, append-nil, append_assoc, slice_get, option_and_then}
use Rattle.std.specs.Option.{option_map}
use Rattle.std.proofs.lemmas.Bool.{eqb-true}
use Rattle.std.proofs.lemmas.Option.{get_or_from_slice_get, option_and_then_some, slice_get_within}
use Rattle.qc_lists.specs.Law.Lists.{slice_get-append_right}
use Rattle.qc_terms.specs.Tree.{Tree, Number, Unary, Binary, Register, Immediate, Load, NextInput, AddressAfter}
use Rattle.qc_equations.specs.declared.names.Law.{Law}
use Rattle.qc_equations.specs.declared.names.Law.TheVariants.{AddZero, OrZero, AddZeroDrop, OrZeroDrop, XorZeroDrop, ShlZeroDrop, AndOnesDrop, AddSwap, AndSwap, OrSwap, XorSwap, EqSwap, NeSwap, MulSwap, AddLeft, AddRight, SubNeg, NegSub, NegCom, ComXor, ComSub, ComNeg, XorOrAnd, OrXorAnd, AndOr, OrAnd, SubCom, AddSub, EqLtu, NeLtu, LtLtu, LtuLt, EqNe, NeEq, LtGe, GeLt, LtuGeu, GeuLtu, ZxCom, Split8, Split12, Split16, Part8, Part12, Part16, ZxAnd, AndZx, SxShifts}
use Rattle.qc_equations.specs.Steps.{at, rewritten}
use Rattle.qc_equations.specs.Table.{gives}
use Rattle.qc_laws.specs.Names.{laws}
use Rattle.qc_rewrite.specs.Inner.Parts.{part_of, with_part}
use Rattle.qc_rewrite.specs.Inner.Places.{places_from}
use Rattle.qc_rewrite.proofs.PartLemmas.{at_part}
use Rattle.qc_rewrite.proofs.Searching.{still_there}

pub each_law : (law : Law) → (k : ℕ) × (k < 48) × (get_or laws k AddZero ≡ law)
each_law AddZero = (0, omega arith, refl)
each_law OrZero = (1, omega arith, refl)
each_law AddZeroDrop = (2, omega arith, refl)
each_law OrZeroDrop = (3, omega arith, refl)
each_law XorZeroDrop = (4, omega arith, refl)
each_law ShlZeroDrop = (5, omega arith, refl)
each_law AndOnesDrop = (6, omega arith, refl)
each_law AddSwap = (7, omega arith, refl)
each_law AndSwap = (8, omega arith, refl)
each_law OrSwap = (9, omega arith, refl)
each_law XorSwap = (10, omega arith, refl)
each_law EqSwap = (11, omega arith, refl)
each_law NeSwap = (12, omega arith, refl)
each_law MulSwap = (13, omega arith, refl)
each_law AddLeft = (14, omega arith, refl)
each_law AddRight = (15, omega arith, refl)
each_law SubNeg = (16, omega arith, refl)
each_law NegSub = (17, omega arith, refl)
each_law NegCom = (18, omega arith, refl)
each_law ComXor = (19, omega arith, refl)
each_law ComSub = (20, omega arith, refl)
each_law ComNeg = (21, omega arith, refl)
each_law XorOrAnd = (22, omega arith, refl)
each_law OrXorAnd = (23, omega arith, refl)
each_law AndOr = (24, omega arith, refl)
each_law OrAnd = (25, omega arith, refl)
each_law SubCom = (26, omega arith, refl)
each_law AddSub = (27, omega arith, refl)
each_law EqLtu = (28, omega arith, refl)
each_law NeLtu = (29, omega arith, refl)
each_law LtLtu = (30, omega arith, refl)
each_law LtuLt = (31, omega arith, refl)
each_law EqNe = (32, omega arith, refl)
each_law NeEq = (33, omega arith, refl)
each_law LtGe = (34, omega arith, refl)
each_law GeLt = (35, omega arith, refl)
each_law LtuGeu = (36, omega arith, refl)
each_law GeuLtu = (37, omega arith, refl)
each_law ZxCom = (38, omega arith, refl)
each_law Split8 = (39, omega arith, refl)
each_law Split12 = (40, omega arith, refl)
each_law Split16 = (41, omega arith, refl)
each_law Part8 = (42, omega arith, refl)
each_law Part12 = (43, omega arith, refl)
each_law Part16 = (44, omega arith, refl)
each_law ZxAnd = (45, omega arith, refl)
each_law AndZx = (46, omega arith, refl)
each_law SxShifts = (47, omega arith, refl)

mapped : (o : Option Tree) (f : Tree → Tree) (u : Tree) → option_map f o ≡ Some u → (v : Tree) × (o ≡ Some v)
mapped None f u is = absurd (cc is)
mapped (Some v) f u is = (v, refl)

IsPlace : List ℕ → Tree → List ℕ → Type 0
IsPlace way t x = (k : ℕ) × (slice_get (places_from way t) k ≡ Some x)

root_place : (way : List ℕ) (t : Tree) → slice_get (places_from way t) 0 ≡ Some way
root_place way (Number value width) = refl
root_place way (Unary op arg) = refl
root_place way (Binary op left right) = refl
root_place way (Register place width) = refl
root_place way (Immediate operand width) = refl
root_place way (Load width address) = refl
root_place way (NextInput width) = refl
root_place way (AddressAfter width) = refl

-- a place that stands after the root's one
at_next : (way : List ℕ) (n m : ℕ) (p q : Tree) (x : List ℕ) (k : ℕ) → nat_eq n m ≡ true → q ≡ p →
    slice_get (places_from (way ++ n ∷ []) p) k ≡ Some x → slice_get (places_from (way ++ m ∷ []) q) k ≡ Some x
at_next way n m p q x k same is at =
    let e = eqb-true n m same in
    ap (λ (r : Tree). slice_get (places_from (way ++ m ∷ []) r) k) is
    ∙ ap (λ i. slice_get (places_from (way ++ i ∷ []) p) k) (sym e) ∙ at

one_part : (way : List ℕ) (n k : ℕ) (arg p : Tree) (x : List ℕ) (test : Bool) → nat_eq n 0 ≡ test → cond test (Some arg) None ≡ Some p →
    slice_get (places_from (way ++ n ∷ []) p) k ≡ Some x → (j : ℕ) × (slice_get (way ∷ places_from (way ++ 0 ∷ []) arg) j ≡ Some x)
one_part way n k arg p x true is part at = let e : arg ≡ p = cc in (suc k, at_next way n 0 p arg x k is e at)
one_part way n k arg p x false is part at = absurd (cc part)

two_parts : (way : List ℕ) (n k : ℕ) (left right p : Tree) (x : List ℕ) (first second : Bool) → nat_eq n 0 ≡ first → nat_eq n 1 ≡ second →
    cond first (Some left) (cond second (Some right) None) ≡ Some p → slice_get (places_from (way ++ n ∷ []) p) k ≡ Some x →
    (j : ℕ) × (slice_get (way ∷ (places_from (way ++ 0 ∷ []) left ++ places_from (way ++ 1 ∷ []) right)) j ≡ Some x)
two_parts way n k left right p x true second is_first is_second part at =
    let e : left ≡ p = cc in
    (suc k, still_there (places_from (way ++ 0 ∷ []) left) (places_from (way ++ 1 ∷ []) right) k x (at_next way n 0 p left x k is_first e at))
two_parts way n k left right p x false true is_first is_second part at =
    let e : right ≡ p = cc in (
      suc (length (places_from (way ++ 0 ∷ []) left) + k),
      slice_get-append_right (places_from (way ++ 0 ∷ []) left) (places_from (way ++ 1 ∷ []) right) k
          ∙ at_next way n 1 p right x k is_second e at,
    )
two_parts way n k left right p x false false is_first is_second part at = absurd (cc part)

below_part : (way : List ℕ) (n k : ℕ) (t p : Tree) (x : List ℕ) → part_of t n ≡ Some p →
    slice_get (places_from (way ++ n ∷ []) p) k ≡ Some x → (j : ℕ) × (slice_get (places_from way t) j ≡ Some x)
below_part way n k (Unary op arg) p x part at = one_part way n k arg p x (nat_eq n 0) refl part at
below_part way n k (Binary op left right) p x part at =
    two_parts way n k left right p x (nat_eq n 0) (nat_eq n 1) refl refl part at
below_part way n k (Load width address) p x part at = one_part way n k address p x (nat_eq n 0) refl part at
below_part way n k (Number value width) p x part at = absurd (cc part)
below_part way n k (Register place width) p x part at = absurd (cc part)
below_part way n k (Immediate operand width) p x part at = absurd (cc part)
below_part way n k (NextInput width) p x part at = absurd (cc part)
below_part way n k (AddressAfter width) p x part at = absurd (cc part)

place_from : (change : Tree → Option Tree) (way place : List ℕ) (t u : Tree) → at change place t ≡ Some u →
    (k : ℕ) × (slice_get (places_from way t) k ≡ Some (way ++ place))
place_from change way [] t u is = (0, root_place way t ∙ ap (λ p. Some p) (sym (append-nil way)))
place_from change way (n ∷ place) t u is =
    let made = mapped (option_and_then (at change place) (part_of t n)) (λ v. with_part n v t) u (sym (at_part change n place t) ∙ is) in
    option_and_then_some (at change place) (part_of t n) made.0 made.1
    (λ p part below.
    let rest = place_from change (way ++ n ∷ []) place p made.0 below in
    below_part way n rest.0 t p (way ++ n ∷ place) part (rest.1 ∙ ap (λ q. Some q) (append_assoc way (n ∷ []) place)))

pub each_place : (law : Law) (place : List ℕ) (t u : Tree) → rewritten law place t ≡ Some u →
    (k : ℕ) × (k < length (places_from [] t)) × (get_or (places_from [] t) k [] ≡ place)
each_place law place t u is =
    let there = place_from (gives law) [] place t u is in
    (there.0, slice_get_within (places_from [] t) there.0 place there.1, get_or_from_slice_get (places_from [] t) there.0 place [] there.1)
