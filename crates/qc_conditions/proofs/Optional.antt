-- Parts of optional results and of tests.
use Rattle.std.proofs.Common.{◌≡◌, ◌⊎◌, ◌<◌, ◌≤◌, ℕ, List, [], ◌++◌, Bool, true, false, ◌||◌, ◌&&◌, cond, Option, None, Some, nat_eq, nat_le, nat_lt, option_and_then, inl, inr, refl, arith}
use Rattle.std.specs.Option.{option_map, option_or}
use Rattle.qc_derivations.specs.Matching.{Pair, both, none_if}

pub then_parts : {A B : Type 0} (f : A → Option B) (o : Option A) (b : B) → option_and_then f o ≡ Some b → (a : A) × (o ≡ Some a) × (f a ≡ Some b)
then_parts f None b e = absurd (cc e)
then_parts f (Some a) b e = (a, refl, e)

pub map_parts : {A B : Type 0} (f : A → B) (o : Option A) (b : B) → option_map f o ≡ Some b → (a : A) × (o ≡ Some a) × (f a ≡ b)
map_parts f None b e = absurd (cc e)
map_parts f (Some a) b e = (a, refl, cc e)

pub or_parts : {A : Type 0} (x y : Option A) (a : A) → option_or x y ≡ Some a → (x ≡ Some a) ⊎ (y ≡ Some a)
or_parts None y a e = inr e
or_parts (Some x) y a e = inl e

pub both_parts : {A : Type 0} (x y : Option (List A)) (zs : List A) → both x y ≡ Some zs →
    (xs : List A) × (ys : List A) × (x ≡ Some xs) × (y ≡ Some ys) × (xs ++ ys ≡ zs)
both_parts None y zs e = absurd (cc e)
both_parts (Some xs) None zs e = absurd (cc e)
both_parts (Some xs) (Some ys) zs e = (xs, ys, refl, refl, cc e)

pub none_if_parts : (test : Bool) (xs : List Pair) → none_if test ≡ Some xs → (test ≡ true) × ([] ≡ xs)
none_if_parts true xs e = (refl, cc e)
none_if_parts false xs e = absurd (cc e)

-- what is there only if a test holds
pub if_parts : {A : Type 0} (test : Bool) (x : Option A) (a : A) → cond test x None ≡ Some a → (test ≡ true) × (x ≡ Some a)
if_parts true x a e = (refl, e)
if_parts false x a e = absurd (cc e)

pub and_both : (a b : Bool) → (a && b) ≡ true → (a ≡ true) × (b ≡ true)
and_both true b e = (refl, e)
and_both false b e = absurd (cc e)

pub or_left : (a b : Bool) → a ≡ true → (a || b) ≡ true
or_left true b e = refl
or_left false b e = absurd (cc e)

pub or_right : (a b : Bool) → b ≡ true → (a || b) ≡ true
or_right true b e = refl
or_right false b e = e

pub or_neither : (a b : Bool) → (a || b) ≡ false → (a ≡ false) × (b ≡ false)
or_neither true b e = absurd (cc e)
or_neither false b e = (refl, e)

pub not_both : (a : Bool) (P : Type 0) → a ≡ true → a ≡ false → P
not_both true P e f = absurd (cc f)
not_both false P e f = absurd (cc e)

pub numbers : (a b : ℕ) → nat_eq a b ≡ true → a ≡ b
numbers a b e = grind (arith, e)

pub eq_test : (a b : ℕ) → a ≡ b → nat_eq a b ≡ true
eq_test a b e = grind (arith, e)

pub le_test : (a b : ℕ) → a ≤ b → nat_le a b ≡ true
le_test a b e = grind (arith, e)

pub lt_test : (a b : ℕ) → nat_lt a b ≡ true → a < b
lt_test a b e = grind (arith, e)

pub le_from : (a b : ℕ) → nat_le a b ≡ true → a ≤ b
le_from a b e = grind (arith, e)

pub or_either : (a b : Bool) → (a || b) ≡ true → (a ≡ true) ⊎ (b ≡ true)
or_either true b e = inl refl
or_either false b e = inr e
