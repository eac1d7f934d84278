-- Numbers that stop at a limit, and the sums of forms.
use Rattle.std.proofs.Common.{◌≡◌, ◌+◌, ◌*◌, ◌<◌, ℕ, zero, suc, true, false, nat_eq, List, [], ◌∷◌, ◌++◌, length, slice_get, slice_set, slice_index_or, take, add-one, Option, None, Some, refl, ◌∙◌, ap, arith, eq-eqb}
use Rattle.std.proofs.lemmas.Bool.Decides.{nat_tests}
use Rattle.qc_words.specs.declared.operator.Op.{Op}
use Rattle.qc_bodies.specs.declared.plain.Plain.{Plain}
use Rattle.qc_bodies.specs.declared.sizes.Form.{Form}
use Rattle.qc_bodies.specs.Meanings.{Meaning, operands_of, operated, used, value, value_or}
use Rattle.qc_bodies.specs.Plains.{plain_of, plains_of}
use Rattle.qc_bodies.specs.Sizes.{AreForms, IsForm, stopped, weighed, added, size_at, sizes}
use Rattle.qc_bodies.specs.Law.Related.{RelOption, related_get}

-- a factor may be stopped before
pub stopped_times : (x a n : ℕ) → stopped (x + stopped a * n) ≡ stopped (x + a * n)
stopped_times x a zero = grind arith
stopped_times x a (suc n) = grind arith

pub weighed_push : (counts ns : List ℕ) → weighed (counts ++ 0 ∷ []) ns ≡ weighed counts ns
weighed_push [] [] = omega arith
weighed_push [] (n ∷ ns) = omega arith
weighed_push (c ∷ cs) [] = ap (λ x. c + x) (weighed_push cs [])
weighed_push (c ∷ cs) (n ∷ ns) = ap (λ x. c * n + x) (weighed_push cs ns)

pub weighed_set : (base : ℕ) (counts ns : List ℕ) (k times : ℕ) → k < length counts
    → stopped (base + weighed (slice_set counts k (stopped (slice_index_or counts k 0 + times))) ns)
    ≡ stopped ((base + weighed counts ns) + times * value_or 1 (slice_get ns k))
weighed_set base [] ns k times h = absurd (omega arith)
weighed_set base (c ∷ cs) [] zero times h = omega arith
weighed_set base (c ∷ cs) (n ∷ ns) zero times h =
    let e = stopped_times (base + weighed cs ns) (c + times) n in
    let d : (c + times) * n ≡ c * n + times * n = grind arith in
    omega (arith, e, d)
weighed_set base (c ∷ cs) [] (suc k) times h =
    let e = weighed_set (base + c) cs [] k times (omega arith) in
    omega (arith, e)
weighed_set base (c ∷ cs) (n ∷ ns) (suc k) times h =
    let e = weighed_set (base + c * n) cs ns k times (omega arith) in
    omega (arith, e)

pub stopped_factor : (b t x y : ℕ) → stopped x ≡ stopped y → stopped (b + t * x) ≡ stopped (b + t * y)
stopped_factor b t x y e =
    let f = stopped_times b x t in
    let g = stopped_times b y t in
    let h : stopped x * t ≡ stopped y * t = ap (λ z. z * t) e in
    let k : x * t ≡ t * x = grind arith in
    let l : y * t ≡ t * y = grind arith in
    omega (arith, f, g, h, k, l)

weighed_next : (counts ns : List ℕ) (k : ℕ) → k < length counts
    → weighed (take (suc k) counts) ns ≡ weighed (take k counts) ns + slice_index_or counts k 0 * value_or 1 (slice_get ns k)
weighed_next [] ns k h = absurd (omega arith)
weighed_next (c ∷ cs) [] zero h = omega arith
weighed_next (c ∷ cs) (n ∷ ns) zero h = omega arith
weighed_next (c ∷ cs) [] (suc k) h = let e = weighed_next cs [] k (omega arith) in omega (arith, e)
weighed_next (c ∷ cs) (n ∷ ns) (suc k) h = let e = weighed_next cs ns k (omega arith) in omega (arith, e)

pub weighed_more : (counts ns : List ℕ) (k : ℕ) → k < length counts
    → weighed (take (k + 1) counts) ns ≡ weighed (take k counts) ns + slice_index_or counts k 0 * value_or 1 (slice_get ns k)
weighed_more counts ns k h = rw add-one (weighed_next counts ns k h)

-- operators and uses
pub operated_size : (token : ℕ) (op : Op) (ns : List ℕ) → operands_of op ≡ length ns → operated sizes token op ns ≡ 1 + added ns
operated_size token op ns e = let t : nat_eq (operands_of op) (length ns) ≡ true = eq-eqb (operands_of op) (length ns) e in rw t

pub unfit_size : (token : ℕ) (op : Op) (ns : List ℕ) → (operands_of op ≡ length ns → ⊥) → operated sizes token op ns ≡ 1
unfit_size token op ns e =
    let t : nat_eq (operands_of op) (length ns) ≡ false = grind (arith, nat_tests) in rw t

used_by : (token : ℕ) (form : Option Form) (m : Option (Meaning ℕ)) → RelOption IsForm form m → (ns : List ℕ) → (f : Form)
    → form ≡ Some f → stopped (used sizes token m [] ns) ≡ stopped (size_at f ns)
used_by token None m r ns f e = cc
used_by token (Some g) None r ns f e = absurd r
used_by token (Some g) (Some m) r ns f e =
    let same : g ≡ f = cc in r ns ∙ ap (λ x. stopped (size_at x ns)) same

pub used_size : (forms : List Form) (ms : List (Meaning ℕ)) → AreForms forms ms → (token number : ℕ) (ns : List ℕ) (form : Form)
    → slice_get forms number ≡ Some form → stopped (used sizes token (slice_get ms number) [] ns) ≡ stopped (size_at form ns)
used_size forms ms fits token number ns form e =
    used_by token (slice_get forms number) (slice_get ms number) (related_get IsForm forms ms number fits) ns form e

unused_by : (token : ℕ) (form : Option Form) (m : Option (Meaning ℕ)) → RelOption IsForm form m → (ns : List ℕ)
    → form ≡ None → used sizes token m [] ns ≡ 1
unused_by token None None r ns e = refl
unused_by token None (Some m) r ns e = absurd r
unused_by token (Some g) m r ns e = cc

pub unused_size : (forms : List Form) (ms : List (Meaning ℕ)) → AreForms forms ms → (token number : ℕ) (ns : List ℕ)
    → slice_get forms number ≡ None → used sizes token (slice_get ms number) [] ns ≡ 1
unused_size forms ms fits token number ns e =
    unused_by token (slice_get forms number) (slice_get ms number) (related_get IsForm forms ms number fits) ns e

-- one argument more
added_next : (ms : List (Meaning ℕ)) (ns : List ℕ) (args : List Plain) (k : ℕ) (x : Plain) → k < length args → x ≡ slice_index_or args k x
    → added (value sizes ms [] ns (plains_of (take (suc k) args)))
    ≡ added (value sizes ms [] ns (plains_of (take k args))) + value sizes ms [] ns (plain_of x)
added_next ms ns [] k x h e = absurd (omega arith)
added_next ms ns (y ∷ ys) zero x h e = let f = ap (λ z. value sizes ms [] ns (plain_of z)) e in omega (arith, f)
added_next ms ns (y ∷ ys) (suc k) x h e = let f = added_next ms ns ys k x (omega arith) e in omega (arith, f)

pub added_more : (ms : List (Meaning ℕ)) (ns : List ℕ) (args : List Plain) (k : ℕ) (x : Plain) → k < length args → x ≡ slice_index_or args k x
    → added (value sizes ms [] ns (plains_of (take (k + 1) args)))
    ≡ added (value sizes ms [] ns (plains_of (take k args))) + value sizes ms [] ns (plain_of x)
added_more ms ns args k x h e = rw add-one (added_next ms ns args k x h e)
