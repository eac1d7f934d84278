-- Ranks of the parameters of an expression.
use Rattle.std.proofs.Common.{◌≡◌, ◌≢◌, ◌↔◌, ◌+◌, ◌<◌, ◌≤◌, ℕ, zero, suc, List, [], ◌∷◌, ◌++◌, length, map, slice_get, slice_set, Option, None, Some, refl, sym, ◌∙◌, ap, arith, inl, inr, ◌⊎◌, true, false, eqb, length-append}
use Rattle.std.specs.Option.{option_map}
use Rattle.std.proofs.lemmas.Bool.{cases_lt}
use Rattle.std.proofs.lemmas.Bool.Decides.{eqb_tells}
use Rattle.std.proofs.lemmas.Option.{slice_get-map, slice_get_past, slice_get_within}
use Rattle.qc_lists.specs.Law.Lists.{slice_get-append_left, slice_get-append_right}
use Rattle.qc_bodies.specs.Trees.{Core, Sort, one, Leaf, Absent, Param, Wrap, Operate, Use, Apply, none, more, several}
use Rattle.qc_bodies.specs.Meanings.{Meaning, fun_of, joined_option, nowhere, operated, used, value, value_or}
use Rattle.qc_bodies.specs.Nodes.{placed}
use Rattle.qc_bodies.specs.Normals.{at_places, ranked, ranked_param}
use Rattle.qc_bodies.specs.Written.{written}
use Rattle.qc_bodies.specs.Inner.Marking.{Each, IsRanked}

-- what holds of each parameter
pub each_mono : (P Q : ℕ → Type 0) → ((n : ℕ) → P n → Q n) → {s : Sort} (e : Core s) → Each P e → Each Q e
each_mono P Q f (Leaf token leaf width) h = tt
each_mono P Q f (Absent token) h = tt
each_mono P Q f (Param number) h = f number h
each_mono P Q f (Wrap token wrap width part) h = each_mono P Q f part h
each_mono P Q f (Operate token op args) h = each_mono P Q f args h
each_mono P Q f (Use token number callees args) h = each_mono P Q f args h
each_mono P Q f (Apply token number args) h = each_mono P Q f args h
each_mono P Q f none h = tt
each_mono P Q f (more e es) h = (each_mono P Q f e h.0, each_mono P Q f es h.1)

pub each_push : (P : ℕ → Type 0) (xs : List (Core one)) (x : Core one) → Each P (several xs) → Each P x
    → Each P (several (xs ++ x ∷ []))
each_push P [] x h k = (k, tt)
each_push P (y ∷ ys) x h k = (h.0, each_push P ys x h.1 k)

each_placed : (P : ℕ → Type 0) (xs : List (Core one)) (k : ℕ) → Each P (several xs) → Each P (placed xs k)
each_placed P [] k h = tt
each_placed P (x ∷ xs) zero h = h.0
each_placed P (x ∷ xs) (suc k) h = each_placed P xs k h.1

pub each_chosen : (P : ℕ → Type 0) (xs : List (Core one)) (chosen : List ℕ) → Each P (several xs) → Each P (several (at_places xs chosen))
each_chosen P xs [] h = tt
each_chosen P xs (k ∷ ks) h = (each_placed P xs k h, each_chosen P xs ks h)

-- a list that is written at a place
get_set_same : {A : Type 0} (xs : List A) (k : ℕ) (x : A) → k < length xs → slice_get (slice_set xs k x) k ≡ Some x
get_set_same [] k x h = absurd (omega arith)
get_set_same (y ∷ ys) zero x h = refl
get_set_same (y ∷ ys) (suc k) x h = get_set_same ys k x (omega arith)

get_set_other : {A : Type 0} (xs : List A) (k : ℕ) (x : A) (j : ℕ) → j ≢ k → slice_get (slice_set xs k x) j ≡ slice_get xs j
get_set_other [] k x j h = refl
get_set_other (y ∷ ys) zero x zero h = absurd (h refl)
get_set_other (y ∷ ys) zero x (suc j) h = refl
get_set_other (y ∷ ys) (suc k) x zero h = refl
get_set_other (y ∷ ys) (suc k) x (suc j) h = get_set_other ys k x j (λ e. h (ap suc e))

pub joined_some : (o : Option (Option ℕ)) (r : ℕ) → joined_option o ≡ Some r → o ≡ Some (Some r)
joined_some None r e = cc
joined_some (Some o) r e = ap Some e

abbrev pub AreRanks : List (Option ℕ) → List ℕ → Type 0
AreRanks ranks used = (number rank : ℕ) → slice_get ranks number ≡ Some (Some rank) → slice_get used rank ≡ Some number

-- more room
abbrev pub SameRanks : List (Option ℕ) → List (Option ℕ) → Type 0
SameRanks old new = (p r : ℕ) → slice_get new p ≡ Some (Some r) ↔ (slice_get old p ≡ Some (Some r))

pub same_push : (old : List (Option ℕ)) → SameRanks old (old ++ None ∷ [])
same_push [] zero r = (λ e. cc, λ e. cc)
same_push [] (suc p) r = (λ e. cc, λ e. cc)
same_push (x ∷ xs) zero r = (λ e. e, λ e. e)
same_push (x ∷ xs) (suc p) r = same_push xs p r

pub same_trans : (a b c : List (Option ℕ)) → SameRanks a b → SameRanks b c → SameRanks a c
same_trans a b c f g p r = (λ e. (f p r).0 ((g p r).0 e), λ e. (g p r).1 ((f p r).1 e))

pub room_ranks : (old new : List (Option ℕ)) (used : List ℕ) → SameRanks old new → AreRanks old used → AreRanks new used
room_ranks old new used f h p r e = h p r ((f p r).0 e)

pub room_keeps : (old new : List (Option ℕ)) (used : List ℕ) → SameRanks old new → (p : ℕ) → IsRanked old used p → IsRanked new used p
room_keeps old new used f p h = record { rank = h.rank; has = (f p h.rank).1 h.has; is = h.is }

-- one rank more
module _ (ranks : List (Option ℕ)) (used : List ℕ) (number : ℕ) (room : number < length ranks) (unranked : joined_option (slice_get ranks number) ≡ None) where
  pub new_other : (p r : ℕ) → slice_get ranks p ≡ Some (Some r) → p ≢ number
  new_other p r e same =
      let f : joined_option (slice_get ranks number) ≡ Some r = ap (λ q. joined_option (slice_get ranks q)) (sym same) ∙ ap joined_option e in
      cc

  pub new_keeps : (p : ℕ) → IsRanked ranks used p → IsRanked (slice_set ranks number (Some (length used))) (used ++ number ∷ []) p
  new_keeps p h = record {
    rank = h.rank;
    has = get_set_other ranks number (Some (length used)) p (new_other p h.rank h.has) ∙ h.has;
    is = slice_get-append_left used (number ∷ []) h.rank (slice_get_within used h.rank p h.is) ∙ h.is;
  }

  at_end : slice_get (used ++ number ∷ []) (length used) ≡ Some number
  at_end = let e : length used ≡ length used + 0 = omega arith in
      ap (slice_get (used ++ number ∷ [])) e ∙ slice_get-append_right used (number ∷ []) 0

  pub new_has : IsRanked (slice_set ranks number (Some (length used))) (used ++ number ∷ []) number
  new_has = record { rank = length used; has = get_set_same ranks number (Some (length used)) room; is = at_end }

  pub new_ranks : AreRanks ranks used → AreRanks (slice_set ranks number (Some (length used))) (used ++ number ∷ [])
  new_ranks h p r e = split (eqb_tells p number)
    where
      split : ((eqb p number ≡ true) × (p ≡ number)) ⊎ ((eqb p number ≡ false) × (p ≢ number)) → slice_get (used ++ number ∷ []) r ≡ Some p
      split (inl same) =
          let s : slice_get (slice_set ranks number (Some (length used))) number ≡ Some (Some r) =
          ap (slice_get (slice_set ranks number (Some (length used)))) (sym same.1) ∙ e in
          let w = get_set_same ranks number (Some (length used)) room in
          let len : length used ≡ r = cc in
          ap (slice_get (used ++ number ∷ [])) (sym len) ∙ (at_end ∙ ap Some (sym same.1))
      split (inr other) =
          let before : slice_get used r ≡ Some p = h p r (sym (get_set_other ranks number (Some (length used)) p other.1) ∙ e) in
          slice_get-append_left used (number ∷ []) r (slice_get_within used r p before) ∙ before

-- An expression by ranks comes to what it comes to, where what its parameters are by rank is what they are.
pub ranked_by : (P : ℕ → Type 0) (ms : List (Meaning (Core one))) (ranks : List (Option ℕ)) (by es : List (Core one))
    → ((n : ℕ) → P n → value written ms [] by (ranked_param (slice_get ranks n)) ≡ placed es n)
    → {s : Sort} (e : Core s) → Each P e → value written ms [] by (ranked ranks e) ≡ value written ms [] es e
ranked_by P ms ranks by es f (Leaf token leaf width) h = refl
ranked_by P ms ranks by es f (Absent token) h = refl
ranked_by P ms ranks by es f (Param number) h = f number h
ranked_by P ms ranks by es f (Wrap token wrap width part) h = ap (Wrap token wrap width) (ranked_by P ms ranks by es f part h)
ranked_by P ms ranks by es f (Operate token op args) h = ap (operated written token op) (ranked_by P ms ranks by es f args h)
ranked_by P ms ranks by es f (Use token number callees args) h =
    ap (used written token (slice_get ms number) (map (fun_of written ms []) callees)) (ranked_by P ms ranks by es f args h)
ranked_by P ms ranks by es f (Apply token number args) h =
    ap (value_or (nowhere written) (slice_get [] number) token) (ranked_by P ms ranks by es f args h)
ranked_by P ms ranks by es f none h = refl
ranked_by P ms ranks by es f (more e es2) h =
    ap (λ x. x ∷ value written ms [] by (ranked ranks es2)) (ranked_by P ms ranks by es f e h.0)
    ∙ ap (λ xs. value written ms [] es e ∷ xs) (ranked_by P ms ranks by es f es2 h.1)

pub ranked_value : (ms : List (Meaning (Core one))) (ranks : List (Option ℕ)) (needed : List ℕ) (es : List (Core one))
    → (e : Core one) → Each (IsRanked ranks needed) e
    → value written ms [] (at_places es needed) (ranked ranks e) ≡ value written ms [] es e
ranked_value ms ranks needed es e h =
    ranked_by (IsRanked ranks needed) ms ranks (at_places es needed) es
    (λ n is. ap (λ o. value written ms [] (at_places es needed) (ranked_param o)) is.has
    ∙ ap (value_or (Absent 0)) (slice_get-map (placed es) needed is.rank ∙ ap (option_map (placed es)) is.is)) e h

each_all : (P : ℕ → Type 0) → ((n : ℕ) → P n) → {s : Sort} (e : Core s) → Each P e
each_all P f (Leaf token leaf width) = tt
each_all P f (Absent token) = tt
each_all P f (Param number) = f number
each_all P f (Wrap token wrap width part) = each_all P f part
each_all P f (Operate token op args) = each_all P f args
each_all P f (Use token number callees args) = each_all P f args
each_all P f (Apply token number args) = each_all P f args
each_all P f none = tt
each_all P f (more e es) = (each_all P f e, each_all P f es)

-- each parameter is its own rank
pub own_ranks : (ms : List (Meaning (Core one))) (ranks : List (Option ℕ)) (es : List (Core one)) → length ranks ≡ length es
    → ((n : ℕ) → n < length ranks → slice_get ranks n ≡ Some (Some n))
    → (e : Core one) → value written ms [] es (ranked ranks e) ≡ value written ms [] es e
own_ranks ms ranks es count own e =
    let all : ℕ → Type 0 = λ n. Unit {0} in
    ranked_by all ms ranks es es (λ n u. of n (cases_lt n (length ranks))) e (each_all all (λ n. tt) e)
  where
    of : (n : ℕ) → (n < length ranks) ⊎ (length ranks ≤ n) → value written ms [] es (ranked_param (slice_get ranks n)) ≡ placed es n
    of n (inl h) = ap (λ o. value written ms [] es (ranked_param o)) (own n h)
    of n (inr h) =
        ap (λ o. value written ms [] es (ranked_param o)) (slice_get_past ranks n h)
        ∙ ap (value_or (Absent 0)) (sym (slice_get_past es n (omega arith)))

abbrev pub AreOwn : List (Option ℕ) → Type 0
AreOwn ranks = (n : ℕ) → n < length ranks → slice_get ranks n ≡ Some (Some n)

pub own_more : (ranks : List (Option ℕ)) (count : ℕ) → length ranks ≡ count → AreOwn ranks → AreOwn (ranks ++ Some count ∷ [])
own_more ranks count e own n h = of (cases_lt n (length ranks))
  where
    of : (n < length ranks) ⊎ (length ranks ≤ n) → slice_get (ranks ++ Some count ∷ []) n ≡ Some (Some n)
    of (inl l) = slice_get-append_left ranks (Some count ∷ []) n l ∙ own n l
    of (inr l) =
        let last : n ≡ length ranks + 0 = omega (arith, h, length-append ranks (Some count ∷ [])) in
        let same : count ≡ n = omega arith in
        ap (slice_get (ranks ++ Some count ∷ [])) last ∙ (slice_get-append_right ranks (Some count ∷ []) 0 ∙ ap (λ k. Some (Some k)) same)
