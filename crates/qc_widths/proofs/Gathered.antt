-- What is kept of effects.
use Rattle.std.specs.Prelude.{ℕ, zero, suc, take, drop, slice_get, ◌≡◌, ◌+◌, ◌<◌, ◌≤◌, Bool, min, List, [], ◌∷◌, ◌++◌, map, Option, None, Some}
use Rattle.std.specs.List.{flat_map}
use Rattle.std.proofs.Common.{refl, ap, sym, ◌∙◌, arith, append_assoc, inl, inr}
use Rattle.std.proofs.lemmas.Bool.{cases_lt}
use Rattle.std.proofs.lemmas.Grind.{common_steps, flat_map-append}
use Rattle.std.proofs.lemmas.List.Sums.{sum_by-cons}
use Rattle.std.proofs.lemmas.List.{append-nil}
use Rattle.qc_words.specs.declared.operator.Op.TheVariants as op
use Rattle.qc_terms.specs.declared.term.Dest.{Dest}
use Rattle.qc_terms.specs.declared.term.Effect.{Effect}
use Rattle.qc_terms.specs.declared.term.Term.{Term}
use Rattle.qc_terms.specs.Tree.{tree_of, nodes_of}
use Rattle.qc_descr.specs.Valid.{nodes_of_dest, nodes_of_guard}
use Rattle.qc_grammar.specs.declared.cursor.Number.{Number}
use Rattle.qc_facts.specs.declared.faults.WidthFault.{WidthFault}
use Rattle.qc_widths.specs.declared.acts.Acts.TheVariants.{Huge, Known}
use Rattle.qc_resolve.specs.Effects.{act_of, act_on_memory, clashes_of_act, effect_of, guarded, joined}
use Rattle.qc_facts.specs.Faults.{reported, reported_of_both, token_of, rank_of}
use Rattle.qc_facts.specs.Numbers.{access_width}
use Rattle.qc_resolve.specs.Scopes.{Act}
use Rattle.qc_facts.specs.Values as values
use Rattle.qc_facts.specs.Values.{bits_of}
use Rattle.qc_widths.specs.Inner.KeptValues.{nodes_in}
use Rattle.qc_widths.specs.Inner.KeptEffects.{seen_acts, nodes_in_acts, under, more_under, nodes_under}
use Rattle.qc_names.specs.Law.Reported.{reported-append, both_assoc}
use Rattle.qc_widths.proofs.Seen.{Parts, bin_nodes}

pub record ActsParts (es : List Effect) (count : ℕ) (fault : Option WidthFault) (acts : List Act) : Type 0 where
  pub effects : es ≡ map effect_of acts
  pub nodes : count ≡ nodes_in_acts acts
  pub small : nodes_in_acts acts ≤ 4096
  pub clash : fault ≡ reported (flat_map clashes_of_act acts)

pub acts_small : (acts : List Act) → nodes_in_acts acts ≤ 4096
    → seen_acts acts ≡ Known (map effect_of acts) (nodes_in_acts acts) (reported (flat_map clashes_of_act acts))
unfolding seen_acts
acts_small acts small = grind arith

pub acts_large : (acts : List Act) → 4096 < nodes_in_acts acts → seen_acts acts ≡ Huge
unfolding seen_acts
acts_large acts large = grind arith

parts_small : (es : List Effect) (count : ℕ) (fault : Option WidthFault) (acts : List Act) → nodes_in_acts acts ≤ 4096
    → Known es count fault ≡ seen_acts acts → ActsParts es count fault acts
parts_small es count fault acts small e =
    let k : Known es count fault ≡ Known (map effect_of acts) (nodes_in_acts acts) (reported (flat_map clashes_of_act acts))
    = e ∙ acts_small acts small in
    record { effects = cc; nodes = cc; small = small; clash = cc }

pub acts_parts : (es : List Effect) (count : ℕ) (fault : Option WidthFault) (acts : List Act) → Known es count fault ≡ seen_acts acts
    → ActsParts es count fault acts
acts_parts es count fault acts e = elim (cases_lt 4096 (nodes_in_acts acts)) [
  | inl large ↦ let k : Known es count fault ≡ Huge = e ∙ acts_large acts large in absurd (cc)
  | inr small ↦ parts_small es count fault acts small e
]

pub acts_huge : (acts : List Act) → Huge ≡ seen_acts acts → 4096 < nodes_in_acts acts
acts_huge acts e = elim (cases_lt 4096 (nodes_in_acts acts)) [
  | inl large ↦ large
  | inr small ↦ let k : Huge ≡ Known (map effect_of acts) (nodes_in_acts acts) (reported (flat_map clashes_of_act acts)) = e ∙ acts_small acts small in absurd (cc)
]

pub acts_known : (acts : List Act) (es : List Effect) (count : ℕ) (fault : Option WidthFault) → es ≡ map effect_of acts
    → count ≡ nodes_in_acts acts → count ≤ 4096 → fault ≡ reported (flat_map clashes_of_act acts) → Known es count fault ≡ seen_acts acts
acts_known acts es count fault e n small f =
    ap (λ x. Known x count fault) e ∙ ap (λ x. Known (map effect_of acts) x fault) n
    ∙ ap (λ x. Known (map effect_of acts) (nodes_in_acts acts) x) f ∙ sym (acts_small acts (omega arith))

-- what is reported of one part of an effect
pub part_clash : (v : values.Value) (wanted : Option ℕ) (start : ℕ) (t : Term) (n : ℕ) (width : Option ℕ) (sound : Bool)
    (clash own r : Option WidthFault) → Parts start t n width sound clash v → own ≡ reported (values.mismatch start width wanted)
    → r ≡ reported_of_both clash own → r ≡ reported (v.clashes ++ values.test v wanted)
part_clash v wanted start t n width sound clash own r p o e =
    e ∙ ap (λ x. reported_of_both x own) p.clash
    ∙ ap (λ x. reported_of_both (reported v.clashes) x) (o ∙ ap (λ x. reported (values.mismatch x width wanted)) p.token
    ∙ ap (λ x. reported (values.mismatch v.token x wanted)) p.width) ∙ sym (reported-append token_of rank_of v.clashes (values.test v wanted))

pub one_nodes : (to : Dest) (v : values.Value) (wanted : Option ℕ) → nodes_of_dest to ≡ 0
    → nodes_in_acts (act_of to [] v wanted ∷ []) ≡ nodes_in v
one_nodes to v wanted h = omega arith

pub one_clash : (to : Dest) (v : values.Value) (wanted : Option ℕ) (r : Option WidthFault) → r ≡ reported (v.clashes ++ values.test v wanted)
    → r ≡ reported (flat_map clashes_of_act (act_of to [] v wanted ∷ []))
one_clash to v wanted r e = e ∙ ap reported (sym (append-nil (v.clashes ++ values.test v wanted)))

pub word_nodes : (word : Option ℕ) (bits : Number) (u v : values.Value)
    → nodes_in_acts (act_on_memory word bits u v ∷ []) ≡ nodes_in u + nodes_in v
word_nodes word bits u v = omega arith

pub word_clash : (word : Option ℕ) (bits : Number) (u v : values.Value) (first second r : Option WidthFault)
    → first ≡ reported (u.clashes ++ values.test u word) → second ≡ reported (v.clashes ++ values.test v (access_width word bits))
    → r ≡ reported_of_both first second → r ≡ reported (flat_map clashes_of_act (act_on_memory word bits u v ∷ []))
word_clash word bits u v first second r f s e =
    e ∙ ap (λ x. reported_of_both x second) f ∙ ap (λ x. reported_of_both (reported (u.clashes ++ values.test u word)) x) s
    ∙ sym (reported-append token_of rank_of (u.clashes ++ values.test u word) (v.clashes ++ values.test v (access_width word bits)))
    ∙ ap reported (sym (append-nil ((u.clashes ++ values.test u word) ++ (v.clashes ++ values.test v (access_width word bits)))))

abbrev act_nodes : Act → ℕ
act_nodes a = nodes_of_guard a.guard + (nodes_of_dest a.to + nodes_of (tree_of a.value))

nodes_cons : (x : Act) (xs : List Act) → nodes_in_acts (x ∷ xs) ≡ act_nodes x + nodes_in_acts xs
nodes_cons x xs = sum_by-cons (λ n. n) (act_nodes x)
    (map (λ e. nodes_of_guard e.guard + (nodes_of_dest e.to + nodes_of (tree_of e.value))) (map effect_of xs))

append_step : (w a b c d e : ℕ) → a ≡ w + b → c ≡ w + d → b ≡ d + e → a ≡ c + e
append_step w a b c d e h k l = omega arith

pub nodes_append : (xs ys : List Act) → nodes_in_acts (xs ++ ys) ≡ nodes_in_acts xs + nodes_in_acts ys
nodes_append [] ys = omega arith
nodes_append (x ∷ xs) ys = append_step (act_nodes x) (nodes_in_acts (x ∷ (xs ++ ys))) (nodes_in_acts (xs ++ ys)) (nodes_in_acts (x ∷ xs))
    (nodes_in_acts xs) (nodes_in_acts ys) (nodes_cons x (xs ++ ys)) (nodes_cons x xs) (nodes_append xs ys)

pub clash_append : (xs ys : List Act) → reported (flat_map clashes_of_act (xs ++ ys))
    ≡ reported_of_both (reported (flat_map clashes_of_act xs)) (reported (flat_map clashes_of_act ys))
clash_append xs ys = ap reported (flat_map-append clashes_of_act xs ys)
    ∙ reported-append token_of rank_of (flat_map clashes_of_act xs) (flat_map clashes_of_act ys)

-- under a guard
pub from_zero : (nodes guard : ℕ) (es : List Effect) → nodes_under nodes guard es ≡ nodes + nodes_under 0 guard es
from_zero nodes guard [] = omega arith
from_zero nodes guard (e ∷ es) =
    let k : nodes_under (nodes + more_under guard e.guard) guard es ≡ nodes + more_under guard e.guard + nodes_under 0 guard es =
    from_zero (nodes + more_under guard e.guard) guard es in
    let m : nodes_under (0 + more_under guard e.guard) guard es ≡ 0 + more_under guard e.guard + nodes_under 0 guard es =
    from_zero (0 + more_under guard e.guard) guard es in
    omega arith

guard_nodes : (guard : Term) (inner : Option Term)
    → nodes_of_guard (Some (joined guard inner)) ≡ nodes_of_guard inner + more_under (nodes_of (tree_of guard)) inner
guard_nodes guard None = omega arith
guard_nodes guard (Some inner) = omega (arith, bin_nodes op.And guard inner)

count_step : (j r i m ga ac u all some under : ℕ) → all ≡ j + r + ga → some ≡ i + r + ac → j ≡ i + m → ga ≡ ac + u
    → under ≡ some + m + u → all ≡ under
count_step j r i m ga ac u all some under a b c d e = omega arith

pub guarded_count : (g : values.Value) (acts : List Act)
    → nodes_in_acts (map (guarded g) acts) ≡ nodes_under (nodes_in_acts acts) (nodes_in g) (map effect_of acts)
guarded_count g [] = refl
guarded_count g (a ∷ acts) =
    let gn = nodes_in g in
    let m = more_under gn a.guard in
    count_step (nodes_of_guard (Some (joined g.term a.guard))) (nodes_of_dest a.to + nodes_of (tree_of a.value)) (nodes_of_guard a.guard) m
    (nodes_in_acts (map (guarded g) acts)) (nodes_in_acts acts) (nodes_under 0 gn (map effect_of acts))
    (nodes_in_acts (map (guarded g) (a ∷ acts))) (nodes_in_acts (a ∷ acts)) (nodes_under (nodes_in_acts (a ∷ acts) + m) gn (map effect_of acts))
    (nodes_cons (guarded g a) (map (guarded g) acts)) (nodes_cons a acts) (guard_nodes g.term a.guard)
    (guarded_count g acts ∙ from_zero (nodes_in_acts acts) gn (map effect_of acts))
    (from_zero (nodes_in_acts (a ∷ acts) + m) gn (map effect_of acts))

pub guarded_effects : (g : values.Value) (acts : List Act) → map (under g.term) (map effect_of acts) ≡ map effect_of (map (guarded g) acts)
guarded_effects g [] = refl
guarded_effects g (a ∷ acts) = ap (λ l. effect_of (guarded g a) ∷ l) (guarded_effects g acts)

both_absorb : (a b : Option WidthFault) → reported_of_both (reported_of_both a b) a ≡ reported_of_both a b
both_absorb None None = refl
both_absorb None (Some g) = refl
both_absorb (Some f) None = grind (arith, common_steps)
both_absorb (Some f) (Some g) = grind (arith, common_steps)

-- the guard's clashes before those of each effect are reported as before them all
one_guarded : (g : values.Value) (a : Act) → reported (clashes_of_act (guarded g a))
    ≡ reported_of_both (reported (g.clashes ++ values.test g (Some 1))) (reported (clashes_of_act a))
one_guarded g a =
    let gc = g.clashes ++ values.test g (Some 1) in
    reported-append token_of rank_of (gc ++ a.guards) a.rest ∙ ap (λ x. reported_of_both x (reported a.rest)) (reported-append token_of rank_of gc a.guards)
    ∙ both_assoc token_of rank_of (reported gc) (reported a.guards) (reported a.rest) ∙ ap (λ x. reported_of_both (reported gc) x) (sym (reported-append token_of rank_of a.guards a.rest))

join_guarded : (g a t u : Option WidthFault) → u ≡ reported_of_both g t → reported_of_both (reported_of_both g a) u ≡ reported_of_both g (reported_of_both a t)
join_guarded g a t u e =
    ap (λ x. reported_of_both (reported_of_both g a) x) e ∙ sym (both_assoc token_of rank_of (reported_of_both g a) g t)
    ∙ ap (λ x. reported_of_both x t) (both_absorb g a) ∙ both_assoc token_of rank_of g a t

pub guarded_clash : (g : values.Value) (a : Act) (acts : List Act) → reported (flat_map clashes_of_act (map (guarded g) (a ∷ acts)))
    ≡ reported_of_both (reported (g.clashes ++ values.test g (Some 1))) (reported (flat_map clashes_of_act (a ∷ acts)))
guarded_clash g a [] =
    ap reported (append-nil (clashes_of_act (guarded g a))) ∙ one_guarded g a
    ∙ ap (λ l. reported_of_both (reported (g.clashes ++ values.test g (Some 1))) (reported l)) (sym (append-nil (clashes_of_act a)))
guarded_clash g a (b ∷ acts) =
    let gc = reported (g.clashes ++ values.test g (Some 1)) in
    reported-append token_of rank_of (clashes_of_act (guarded g a)) (flat_map clashes_of_act (map (guarded g) (b ∷ acts)))
    ∙ ap (λ x. reported_of_both x (reported (flat_map clashes_of_act (map (guarded g) (b ∷ acts))))) (one_guarded g a)
    ∙ join_guarded gc (reported (clashes_of_act a)) (reported (flat_map clashes_of_act (b ∷ acts)))
    (reported (flat_map clashes_of_act (map (guarded g) (b ∷ acts)))) (guarded_clash g b acts)
    ∙ ap (λ x. reported_of_both gc x) (sym (reported-append token_of rank_of (clashes_of_act a) (flat_map clashes_of_act (b ∷ acts))))

none_left : (acts : List Act) → map effect_of acts ≡ [] → acts ≡ []
none_left [] e = refl
none_left (a ∷ acts) e = absurd (cc)

pub empty_guarded : (g : values.Value) (acts : List Act) → map effect_of acts ≡ [] → map (guarded g) acts ≡ []
empty_guarded g acts e = ap (λ l. map (guarded g) l) (none_left acts e)

least : (all n gn m u : ℕ) → all ≡ n + m + u → gn ≤ m → 4096 < gn → 4096 < all
least all n gn m u a b c = omega arith

more_least : (gn : ℕ) (inner : Option Term) → gn ≤ more_under gn inner
more_least gn None = omega arith
more_least gn (Some inner) = omega arith

pub huge_guard : (g : values.Value) (acts : List Act) → (map effect_of acts ≡ [] → ⊥) → 4096 < nodes_in g
    → 4096 < nodes_in_acts (map (guarded g) acts)
huge_guard g [] not h = absurd (not refl)
huge_guard g (a ∷ acts) not h =
    least (nodes_in_acts (map (guarded g) (a ∷ acts))) (nodes_in_acts (a ∷ acts)) (nodes_in g) (more_under (nodes_in g) a.guard)
    (nodes_under 0 (nodes_in g) (map effect_of acts))
    (guarded_count g (a ∷ acts) ∙ from_zero (nodes_in_acts (a ∷ acts) + more_under (nodes_in g) a.guard) (nodes_in g) (map effect_of acts))
    (more_least (nodes_in g) a.guard) h

pub reported_guarded : (g : values.Value) (acts : List Act) (r own inner : Option WidthFault) → (map effect_of acts ≡ [] → ⊥)
    → r ≡ reported_of_both own inner → own ≡ reported (g.clashes ++ values.test g (Some 1)) → inner ≡ reported (flat_map clashes_of_act acts)
    → r ≡ reported (flat_map clashes_of_act (map (guarded g) acts))
reported_guarded g [] r own inner not e o i = absurd (not refl)
reported_guarded g (a ∷ acts) r own inner not e o i =
    e ∙ ap (λ x. reported_of_both x inner) o ∙ ap (λ x. reported_of_both (reported (g.clashes ++ values.test g (Some 1))) x) i
    ∙ sym (guarded_clash g a acts)

-- a capped sum
pub capped : (t m guard : ℕ) (es : List Effect)
    → min (nodes_under (min (t + min m 4294967295) 4294967295) guard es) 4294967295 ≡ min (nodes_under (t + m) guard es) 4294967295
capped t m guard es =
    cap (min (t + min m 4294967295) 4294967295) t m (nodes_under 0 guard es) _ _ (from_zero (min (t + min m 4294967295) 4294967295) guard es)
    (from_zero (t + m) guard es) refl
  where
    cap : (q t m u a b : ℕ) → a ≡ q + u → b ≡ t + m + u → q ≡ min (t + min m 4294967295) 4294967295 → min a 4294967295 ≡ min b 4294967295
    cap q t m u a b e f h = omega arith

-- those of the first so many are too many
pub huge_so_far : (first rest all : List Act) → all ≡ first ++ rest → Huge ≡ seen_acts first → Huge ≡ seen_acts all
huge_so_far first rest all e h =
    let n : 4096 < nodes_in_acts first = acts_huge first h in
    let a : nodes_in_acts all ≡ nodes_in_acts first + nodes_in_acts rest = ap nodes_in_acts e ∙ nodes_append first rest in
    sym (acts_large all (omega arith))

some_same : {A : Type 0} (a b : A) → Some a ≡ Some b → a ≡ b
some_same a b e = cc

none_some : {A : Type 0} (x : A) → None ≡ Some x → ⊥
none_some x e = cc

-- a list of lists, cut behind one
pub cut_behind : {A B : Type 0} (f : A → List B) (xs : List A) (i : ℕ) (x : A) → slice_get xs i ≡ Some x
    → flat_map f xs ≡ (flat_map f (take i xs) ++ f x) ++ flat_map f (drop (suc i) xs)
cut_behind f [] i x e = absurd (none_some x e)
cut_behind f (y ∷ xs) zero x e = ap (λ z. f z ++ flat_map f xs) (some_same y x e)
cut_behind f (y ∷ xs) (suc i) x e =
    ap (λ l. f y ++ l) (cut_behind f xs i x e)
    ∙ sym (append_assoc (f y) (flat_map f (take i xs) ++ f x) (flat_map f (drop (suc i) xs)))
    ∙ ap (λ l. l ++ flat_map f (drop (suc i) xs)) (sym (append_assoc (f y) (flat_map f (take i xs)) (f x)))
