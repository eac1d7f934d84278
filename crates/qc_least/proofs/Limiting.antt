-- A search within a limit finds the least count exactly where that is within the limit.
use Rattle.std.proofs.Common.{arith, ◌≡◌, ◌∙◌, ◌+◌, ◌-◌, ◌<◌, ◌≤◌, min, ℕ, zero, suc, List, [], ◌∷◌, map, cond, Option, None, Some, refl, ap, sym, inl, inr, ◌⊎◌, option_and_then}
use Rattle.std.proofs.lemmas.Bool.{cases_lt, le-leb}
use Rattle.std.proofs.lemmas.Bool.Decides.{leb_tells}
use Rattle.std.specs.Option.{option_map}
use Rattle.qc_derivations.specs.Goals.{Need}
use Rattle.qc_least.specs.Choices.{least_among, least_of, least_sum, lesser, plus}
use Rattle.qc_least.specs.Limits.{limited_of, limited_sum, within}

within_limit : (limit n : ℕ) → n ≤ limit → within limit (Some n) ≡ Some n
within_limit limit n below = ap (λ b. cond b (Some n) None) (le-leb n limit below)

beyond_limit : (limit n : ℕ) → limit < n → within limit (Some n) ≡ None
beyond_limit limit n above =
    elim (leb_tells n limit) [
      | inl tells ↦ absurd (let h = tells.1 in omega arith)
      | inr tells ↦ ap (λ b. cond b (Some n) None) tells.0
    ]

two_counts : (limit m n : ℕ) → within limit (Some (m + n)) ≡
    option_and_then (λ k. option_map (λ j. k + j) (within (limit - k) (Some n))) (within limit (Some m))
two_counts limit m n =
    let Rest : Option ℕ → Option ℕ = option_and_then (λ k. option_map (λ j. k + j) (within (limit - k) (Some n))) in
    elim (cases_lt limit (m + n)) [
      | inl above ↦
          elim (cases_lt limit m) [
            | inl first ↦ beyond_limit limit (m + n) above ∙ ap Rest (sym (beyond_limit limit m first))
            | inr low ↦
                let more : limit - m < n = omega arith in
                beyond_limit limit (m + n) above
                ∙ ap (option_map (λ j. m + j)) (sym (beyond_limit (limit - m) n more))
                ∙ ap Rest (sym (within_limit limit m (omega arith)))
          ]
      | inr below ↦
          let rest : n ≤ limit - m = omega arith in
          within_limit limit (m + n) (omega arith)
          ∙ ap (option_map (λ j. m + j)) (sym (within_limit (limit - m) n rest))
          ∙ ap Rest (sym (within_limit limit m (omega arith)))
    ]

none_after : (it : Option ℕ) → option_and_then (λ (k : ℕ). option_map (λ j. k + j) None) it ≡ None
none_after None = refl
none_after (Some k) = refl

within_plus : (limit : ℕ) (first second : Option ℕ) →
    within limit (plus first second) ≡ option_and_then (λ k. option_map (λ j. k + j) (within (limit - k) second)) (within limit first)
within_plus limit None second = refl
within_plus limit (Some m) None = sym (none_after (within limit (Some m)))
within_plus limit (Some m) (Some n) = two_counts limit m n

within_sum : (asked : ℕ → Need → Option ℕ) (least : Need → Option ℕ) → ((limit : ℕ) (need : Need) → asked limit need ≡ within limit (least need)) →
    (limit : ℕ) (needs : List Need) → limited_sum asked limit needs ≡ within limit (least_sum least needs)
within_sum asked least each limit [] = sym (within_limit limit 0 (omega arith))
within_sum asked least each limit (need ∷ needs) =
    (λ i. option_and_then (λ m. option_map (λ n. m + n) (within_sum asked least each (limit - m) needs i)) (each limit need i))
    ∙ sym (within_plus limit (least need) (least_sum least needs))

-- what two counts within the limit come to, by where they stand
lesser_of : (limit m n : ℕ) → (n ≤ limit) ⊎ (limit < n) → (m ≤ limit) ⊎ (limit < m) →
    within limit (Some (min m n)) ≡ lesser (within limit (Some m)) (within limit (Some n))
lesser_of limit m n (inl second) (inl first) =
    within_limit limit (min m n) (omega arith)
    ∙ ap (λ x. lesser (Some m) x) (sym (within_limit limit n second))
    ∙ ap (λ x. lesser x (within limit (Some n))) (sym (within_limit limit m first))
lesser_of limit m n (inl second) (inr first) =
    let e : min m n ≡ n = omega arith in
    ap (λ k. within limit (Some k)) e ∙ ap (λ x. lesser x (within limit (Some n))) (sym (beyond_limit limit m first))
lesser_of limit m n (inr second) (inl first) =
    let e : min m n ≡ m = omega arith in
    ap (λ k. within limit (Some k)) e ∙ within_limit limit m first
    ∙ ap (λ x. lesser (Some m) x) (sym (beyond_limit limit n second))
    ∙ ap (λ x. lesser x (within limit (Some n))) (sym (within_limit limit m first))
lesser_of limit m n (inr second) (inr first) =
    beyond_limit limit (min m n) (omega arith)
    ∙ sym (beyond_limit limit n second)
    ∙ ap (λ x. lesser x (within limit (Some n))) (sym (beyond_limit limit m first))

stands : (limit n : ℕ) → (n ≤ limit) ⊎ (limit < n)
stands limit n = elim (cases_lt limit n) [ inl above ↦ inr above | inr below ↦ inl (omega arith) ]

lesser_alone : (it : Option ℕ) → lesser it None ≡ it
lesser_alone None = refl
lesser_alone (Some k) = refl

within_lesser : (limit : ℕ) (first second : Option ℕ) →
    within limit (lesser first second) ≡ lesser (within limit first) (within limit second)
within_lesser limit None second = refl
within_lesser limit (Some m) None = sym (lesser_alone (within limit (Some m)))
within_lesser limit (Some m) (Some n) = lesser_of limit m n (stands limit n) (stands limit m)

within_among : {A : Type 0} (limit : ℕ) (least cut : A → Option ℕ) → ((item : A) → cut item ≡ within limit (least item)) →
    (items : List A) → least_among (map cut items) ≡ within limit (least_among (map least items))
within_among limit least cut each [] = refl
within_among limit least cut each (item ∷ items) =
    ap (λ x. lesser x (least_among (map cut items))) (each item)
    ∙ ap (λ x. lesser (within limit (least item)) x) (within_among limit least cut each items)
    ∙ sym (within_lesser limit (least item) (least_among (map least items)))

-- one more than a count
one_more : (limit : ℕ) (it : Option ℕ) → plus (Some 1) (within limit it) ≡ within (suc limit) (plus (Some 1) it)
one_more limit None = refl
one_more limit (Some n) =
    elim (stands limit n) [
      | inl below ↦
          ap (λ x. plus (Some 1) x) (within_limit limit n below) ∙ sym (within_limit (suc limit) (1 + n) (omega arith))
      | inr above ↦
          ap (λ x. plus (Some 1) x) (beyond_limit limit n above) ∙ sym (beyond_limit (suc limit) (1 + n) (omega arith))
    ]

no_limit : (it : Option ℕ) → None ≡ within 0 (plus (Some 1) it)
no_limit None = refl
no_limit (Some n) = sym (beyond_limit 0 (1 + n) (omega arith))

all_none : {A : Type 0} (items : List A) → least_among (map (λ (item : A). None) items) ≡ None
all_none [] = refl
all_none (item ∷ items) = all_none items

pub limited : (choices : Need → List (List Need)) (height limit : ℕ) (need : Need) →
    limited_of choices height limit need ≡ within limit (least_of choices height need)
limited choices zero limit need = refl
limited choices (suc height) zero need =
    let least = λ (inner : List Need). plus (Some 1) (least_sum (least_of choices height) inner) in
    sym (all_none (choices need))
    ∙ within_among 0 least (λ inner. None) (λ inner. no_limit (least_sum (least_of choices height) inner)) (choices need)
limited choices (suc height) (suc limit) need =
    let least = λ (inner : List Need). plus (Some 1) (least_sum (least_of choices height) inner) in
    let cut = λ (inner : List Need). plus (Some 1) (limited_sum (limited_of choices height) limit inner) in
    within_among (suc limit) least cut
    (λ inner. ap (λ x. plus (Some 1) x)
    (within_sum (limited_of choices height) (least_of choices height) (limited choices height) limit inner)
    ∙ one_more limit (least_sum (least_of choices height) inner))
    (choices need)
