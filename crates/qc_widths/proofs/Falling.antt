-- Evaluations end.
use Rattle.std.specs.Prelude.{ℕ, zero, suc, ◌≡◌, ◌+◌, ◌*◌, ◌<◌, ◌≤◌, List, [], ◌∷◌, slice_get, Some}
use Rattle.std.proofs.Common.{ap, arith}
use Rattle.std.proofs.lemmas.Nat.{mul-le}
use Rattle.std.proofs.Math.Nat.{suc-mul}
use Rattle.qc_lrtl.specs.declared.syntax.Item.{Item}
use Rattle.qc_widths.specs.Inner.Measure.{depth_of, depths_of, potential_of}

times : (a b d : ℕ) → a < b → a * d + d ≤ b * d
times a b d h =
    let k : suc a * d ≤ b * d = mul-le (suc a) d b d h (omega arith) in
    let e : suc a * d ≡ a * d + d = suc-mul a d in
    omega arith

-- in a body of a function below the level
pub falls_below : (count depths ceiling level number : ℕ) → number < level
    → potential_of count depths ceiling number + depths ≤ potential_of count depths ceiling level
unfolding potential_of
falls_below count depths ceiling level number h =
    times (ceiling * suc count + number) (ceiling * suc count + level) depths (omega arith)

-- in the body of a function that a parameter stands for
pub falls_inside : (count depths ceiling level number : ℕ) → number < ceiling → number ≤ count
    → potential_of count depths number number + depths ≤ potential_of count depths ceiling level
unfolding potential_of
falls_inside count depths ceiling level number h n =
    let k : number * suc count + suc count ≤ ceiling * suc count = times number ceiling (suc count) h in
    times (number * suc count + number) (ceiling * suc count + level) depths (omega arith)

first : (a b : Item) → Some a ≡ Some b → a ≡ b
first a b h = cc

positive : (l : List Item) → 0 < depths_of l
positive [] = omega arith
positive (x ∷ xs) = let q : 0 < depths_of xs = positive xs in omega arith

pub shallower : (items : List Item) (number : ℕ) (item : Item) → slice_get items number ≡ Some item
    → depth_of item < depths_of items
shallower [] number item e = absurd (cc)
shallower (i ∷ items) zero item e =
    let d : depth_of i ≡ depth_of item = ap depth_of (first i item e) in
    let p : 0 < depths_of items = positive items in omega arith
shallower (i ∷ items) (suc number) item e = let k : depth_of item < depths_of items = shallower items number item e in omega arith
