-- The one effect of an instruction that meets a child's goal, among others that are harmless.
use Rattle.std.proofs.Common.{◌≡◌, ◌∙◌, ◌+◌, ◌||◌, ◌&&◌, ℕ, List, [], ◌∷◌, ◌++◌, map, Bool, true, false, cond, count_by, None, Some, append-nil, refl, sym, ap, arith}
use Rattle.std.specs.List.{AllByRecursion, list_all, list_any}
use Rattle.std.proofs.lemmas.List.Sums.{sum_by-cons}
use Rattle.qc_terms.specs.declared.term.Effect.{Effect}
use Rattle.qc_derivations.specs.Forest.{Stand, is_there}
use Rattle.qc_derivations.specs.Machine.{Assignment, Machine, assignment_of}
use Rattle.qc_derivations.specs.Matching.{Pair, all_pairs, assignment_pairs, goal_met, meets, pairs_at}
use Rattle.qc_derivations.specs.Nodes.{is_allowed}
use Rattle.qc_derivations.specs.Rules.{is_harmless}
use Rattle.qc_soundness.proofs.Optional.{and_both, both_parts}

-- the effect meets the goal
abbrev pub meets_it : Bool → List Stand → Assignment → Effect → Bool
meets_it root stands goal e = meets root stands goal.to (assignment_of e).to

abbrev pub Misses : Bool → List Stand → Assignment → Effect → Type 0
Misses root stands goal e = meets_it root stands goal e ≡ false

abbrev pub count_met : Bool → List Stand → Assignment → List Effect → ℕ
count_met root stands goal es = count_by (λ (a : Assignment). meets root stands goal.to a.to) (map assignment_of es)

pub record IsSingle (root : Bool) (stands : List Stand) (goal : Assignment) (es : List Effect) (pairs : List Pair) : Type 0 where
  pub before : List Effect
  pub this : Effect
  pub behind : List Effect
  pub is : es ≡ before ++ (this ∷ behind)
  pub before_misses : AllByRecursion (Misses root stands goal) before
  pub behind_misses : AllByRecursion (Misses root stands goal) behind
  pub this_meets : meets_it root stands goal this ≡ true
  pub are_pairs : assignment_pairs root (assignment_of this) goal ≡ Some pairs

pub counted : (root : Bool) (stands : List Stand) (goal : Assignment) (e : Effect) (es : List Effect) →
    count_met root stands goal (e ∷ es) ≡ cond (meets_it root stands goal e) 1 0 + count_met root stands goal es
counted root stands goal e es = sum_by-cons (λ (a : Assignment). cond (meets root stands goal.to a.to) 1 0) (assignment_of e) (map assignment_of es)

none_meets : (root : Bool) (stands : List Stand) (goal : Assignment) (es : List Effect) (pairs : List Pair) →
    all_pairs root stands (goal ∷ []) (map assignment_of es) ≡ Some pairs → count_met root stands goal es ≡ 0 →
    AllByRecursion (Misses root stands goal) es × (pairs ≡ [])
none_meets root stands goal [] pairs all none = (tt, let it : Some [] ≡ Some pairs = all in let same : pairs ≡ [] = cc in same)
none_meets root stands goal (e ∷ es) pairs all none =
    let a : Assignment = assignment_of e in
    let two = both_parts (pairs_at root a (goal_met root stands (goal ∷ []) a)) (all_pairs root stands (goal ∷ []) (map assignment_of es)) pairs all in
    go (λ ys. none_meets root stands goal es ys) (meets_it root stands goal e) refl two.0 two.1 two.2 two.3 two.4 (sym (counted root stands goal e es) ∙ none)
  where
    go : ((ys : List Pair) → all_pairs root stands (goal ∷ []) (map assignment_of es) ≡ Some ys → count_met root stands goal es ≡ 0 →
        AllByRecursion (Misses root stands goal) es × (ys ≡ [])) → (b : Bool) → meets_it root stands goal e ≡ b → (xs ys : List Pair) → pairs_at root (assignment_of e) (cond b (Some goal) None) ≡ Some xs →
        all_pairs root stands (goal ∷ []) (map assignment_of es) ≡ Some ys → xs ++ ys ≡ pairs → cond b 1 0 + count_met root stands goal es ≡ 0 →
        AllByRecursion (Misses root stands goal) (e ∷ es) × (pairs ≡ [])
    go below true is xs ys one two whole zeros = absurd (omega (arith, zeros))
    go below false is xs ys one two whole zeros =
        let deep = below ys two (omega (arith, zeros)) in
        let first : xs ≡ [] = let it : Some [] ≡ Some xs = one in cc in
        ((is, deep.0), sym whole ∙ ap (λ zs. zs ++ ys) first ∙ deep.1)

pub single : (root : Bool) (stands : List Stand) (goal : Assignment) (es : List Effect) (pairs : List Pair) →
    all_pairs root stands (goal ∷ []) (map assignment_of es) ≡ Some pairs → count_met root stands goal es ≡ 1 → IsSingle root stands goal es pairs
single root stands goal [] pairs all one = absurd (omega (arith, one))
single root stands goal (e ∷ es) pairs all one =
    let a : Assignment = assignment_of e in
    let two = both_parts (pairs_at root a (goal_met root stands (goal ∷ []) a)) (all_pairs root stands (goal ∷ []) (map assignment_of es)) pairs all in
    go (λ ys. single root stands goal es ys) (meets_it root stands goal e) refl two.0 two.1 two.2 two.3 two.4 (sym (counted root stands goal e es) ∙ one)
  where
    go : ((ys : List Pair) → all_pairs root stands (goal ∷ []) (map assignment_of es) ≡ Some ys → count_met root stands goal es ≡ 1 →
        IsSingle root stands goal es ys) → (b : Bool) → meets_it root stands goal e ≡ b → (xs ys : List Pair) → pairs_at root (assignment_of e) (cond b (Some goal) None) ≡ Some xs →
        all_pairs root stands (goal ∷ []) (map assignment_of es) ≡ Some ys → xs ++ ys ≡ pairs → cond b 1 0 + count_met root stands goal es ≡ 1 →
        IsSingle root stands goal (e ∷ es) pairs
    go below true is xs ys first rest whole counts =
        let none = none_meets root stands goal es ys rest (omega (arith, counts)) in
        record {
          before = [];
          this = e;
          behind = es;
          is = refl;
          before_misses = tt;
          behind_misses = none.0;
          this_meets = is;
          are_pairs = first ∙ ap Some (sym (append-nil xs) ∙ ap (λ zs. xs ++ zs) (sym none.1) ∙ whole);
        }
    go below false is xs ys first rest whole counts =
        let deep = below ys rest (omega (arith, counts)) in
        let empty : xs ≡ [] = let it : Some [] ≡ Some xs = first in cc in
        let same : ys ≡ pairs = ap (λ zs. zs ++ ys) (sym empty) ∙ whole in
        record {
          before = e ∷ deep.before;
          this = deep.this;
          behind = deep.behind;
          is = ap (λ zs. e ∷ zs) deep.is;
          before_misses = (is, deep.before_misses);
          behind_misses = deep.behind_misses;
          this_meets = deep.this_meets;
          are_pairs = deep.are_pairs ∙ ap Some same;
        }

-- those that miss the goal are harmless
abbrev pub Harmless : Machine → List Stand → Effect → Type 0
Harmless m stands e = is_harmless m stands (assignment_of e) ≡ true

pub missing_are_harmless : (root : Bool) (m : Machine) (stands : List Stand) (goal : Assignment) (es : List Effect) →
    list_all (is_allowed m root stands (goal ∷ [])) (map assignment_of es) ≡ true → AllByRecursion (Misses root stands goal) es →
    AllByRecursion (Harmless m stands) es
missing_are_harmless root m stands goal [] allowed miss = tt
missing_are_harmless root m stands goal (e ∷ es) allowed miss =
    let a : Assignment = assignment_of e in
    let parts = and_both (is_allowed m root stands (goal ∷ []) a) (list_all (is_allowed m root stands (goal ∷ [])) (map assignment_of es)) allowed in
    (ap (λ b. is_there (cond b (Some goal) None) || is_harmless m stands a) (sym miss.0) ∙ parts.0, missing_are_harmless root m stands goal es parts.1 miss.1)

-- what holds of all assignments of a list holds of those of its parts
pub all_of_parts : (test : Assignment → Bool) (xs ys : List Effect) → list_all test (map assignment_of (xs ++ ys)) ≡ true →
    (list_all test (map assignment_of xs) ≡ true) × (list_all test (map assignment_of ys) ≡ true)
all_of_parts test [] ys all = (refl, all)
all_of_parts test (x ∷ xs) ys all =
    let parts = and_both (test (assignment_of x)) (list_all test (map assignment_of (xs ++ ys))) all in
    let deep = all_of_parts test xs ys parts.1 in
    (ap (λ b. b && list_all test (map assignment_of xs)) parts.0 ∙ deep.0, deep.1)

-- a test that holds of one assignment holds of some
pub any_of_parts : (test : Assignment → Bool) (xs : List Effect) (this : Effect) (ys : List Effect) → test (assignment_of this) ≡ true →
    list_any test (map assignment_of (xs ++ (this ∷ ys))) ≡ true
any_of_parts test [] this ys here = ap (λ b. b || list_any test (map assignment_of ys)) here
any_of_parts test (x ∷ xs) this ys here = go (test (assignment_of x)) (any_of_parts test xs this ys here)
  where
    go : (b : Bool) → list_any test (map assignment_of (xs ++ (this ∷ ys))) ≡ true → (b || list_any test (map assignment_of (xs ++ (this ∷ ys)))) ≡ true
    go true e = refl
    go false e = e
