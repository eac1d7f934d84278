-- Arguments with their parameters, one by one.
use Rattle.std.proofs.Common.{ℕ, zero, suc, ◌≡◌, ◌+◌, ◌<◌, ◌≤◌, ◌++◌, true, List, [], ◌∷◌, Option, Some, None, length, map, take, min, slice_index_or, refl, sym, ap, ◌∙◌, append_assoc, arith}
use Rattle.std.specs.Prelude.{false, if◌then◌else◌}
use Rattle.std.proofs.lemmas.List.{append-nil, map-append, take_more, length-map, length-take-le}
use Rattle.qc_bodies.specs.Trees.{Core, one, core_of, core-use, several}
use Rattle.qc_bodies.specs.Trees as core
use Rattle.qc_bodies.specs.Trees.{cores_of}
use Rattle.qc_bodies.specs.Law.Acts.{Uses, act_of}
use Rattle.qc_bodies.specs.declared.act.Act as code
use Rattle.qc_bodies.specs.declared.tree.Tree.{Tree}
use Rattle.qc_bodies.specs.declared.tree.Tree.TheVariants as tree
use Rattle.qc_resolve.specs.declared.signatures.Signature as kept
use Rattle.qc_resolve.specs.KeptSignatures.{signature_like}
use Rattle.qc_resolve.specs.Scopes.{takes}
use Rattle.qc_named.specs.declared.expression.Arguments.{Arguments}
use Rattle.qc_named.specs.Inner.Arguments.{AreArguments, HasAlso}
use Rattle.qc_named.specs.Resolved.{Resolved, paired, one_callee, one_value, one_aim, callees_of, values_of, aims_of, use_of_placed}
use Rattle.qc_named.specs.ResolvedEffects.{acts_of_placed, acts_of_effect, acts_of}
use Rattle.qc_lrtl.specs.declared.syntax.Effect.{Effect}
use Rattle.std.specs.Option.{option_map, option_to_list}
use Rattle.std.proofs.lemmas.Grind.{flat_map-append}
use Rattle.qc_named.specs.Standing.{Standing}

paired-append : {A : Type 0} (f : Option ℕ → Resolved → List A) (ps qs : List (Option ℕ)) (xs ys : List Resolved)
    → length ps ≡ length xs → paired f (ps ++ qs) (xs ++ ys) ≡ paired f ps xs ++ paired f qs ys
paired-append f [] qs [] ys e = refl
paired-append f [] qs (x ∷ xs) ys e = absurd (cc e)
paired-append f (p ∷ ps) qs [] ys e = absurd (cc e)
paired-append f (p ∷ ps) qs (x ∷ xs) ys e =
    ap (λ l. f p x ++ l) (paired-append f ps qs xs ys (omega (arith, e)))
    ∙ sym (append_assoc (f p x) (paired f ps xs) (paired f qs ys))

pub map_more : {A B : Type 0} (f : A → B) (xs : List A) (k : ℕ) (x : A) → k < length xs → x ≡ slice_index_or xs k x
    → map f (take (k + 1) xs) ≡ map f (take k xs) ++ f x ∷ []
map_more f xs k x h e =
    ap (map f) (take_more xs k x h) ∙ map-append f (take k xs) (slice_index_or xs k x ∷ [])
    ∙ ap (λ y. map f (take k xs) ++ f y ∷ []) (sym e)

-- one argument more
pub paired_more : {A X : Type 0} (f : Option ℕ → Resolved → List A) (g : X → Resolved) (params : List (Option ℕ)) (xs : List X)
    → (i : ℕ) (d : Option ℕ) (x : X) → i < length params → i < length xs → x ≡ slice_index_or xs i x
    → paired f (take (i + 1) params) (map g (take (i + 1) xs))
    ≡ paired f (take i params) (map g (take i xs)) ++ f (slice_index_or params i d) (g x)
paired_more f g params xs i d x h k e =
    let p : Option ℕ = slice_index_or params i d in
    let same : length (take i params) ≡ length (map g (take i xs)) =
    length-take-le i params (omega (arith, h)) ∙ sym (length-map (take i xs) g ∙ length-take-le i xs (omega (arith, k))) in
    ap (λ ps. paired f ps (map g (take (i + 1) xs))) (take_more params i d h)
    ∙ ap (paired f (take i params ++ p ∷ [])) (map_more g xs i x k e)
    ∙ paired-append f (take i params) (p ∷ []) (map g (take i xs)) (g x ∷ []) same
    ∙ ap (λ l. paired f (take i params) (map g (take i xs)) ++ l) (append-nil (f p (g x)))

-- all of them
pub paired_all : {A X : Type 0} (f : Option ℕ → Resolved → List A) (g : X → Resolved) (i : ℕ) (params : List (Option ℕ)) (xs : List X)
    → min (length params) (length xs) ≤ i
    → paired f (take i params) (map g (take i xs)) ≡ paired f params (map g xs)
paired_all f g zero [] xs h = refl
paired_all f g zero (p ∷ params) [] h = refl
paired_all f g zero (p ∷ params) (x ∷ xs) h = absurd (omega (arith, h))
paired_all f g (suc i) [] xs h = refl
paired_all f g (suc i) (p ∷ params) [] h = refl
paired_all f g (suc i) (p ∷ params) (x ∷ xs) h =
    ap (λ l. f p (g x) ++ l) (paired_all f g i params xs (omega (arith, h)))

pub arguments_more : {X : Type 0} (standing : Standing) (g : X → Resolved) (params : List (Option ℕ)) (xs : List X)
    → (i : ℕ) (d : Option ℕ) (x : X) → i < length params → i < length xs → x ≡ slice_index_or xs i x → (old new : Arguments)
    → AreArguments standing (take i params) (map g (take i xs)) old → HasAlso standing (slice_index_or params i d) (g x) old new
    → AreArguments standing (take (i + 1) params) (map g (take (i + 1) xs)) new
arguments_more standing g params xs i d x h k e old new before also = record {
  callees = also.callees ∙ ap (λ l. l ++ one_callee standing (slice_index_or params i d) (g x)) before.callees
      ∙ sym (paired_more (one_callee standing) g params xs i d x h k e);
  aims = also.aims ∙ ap (λ l. l ++ one_aim standing (slice_index_or params i d) (g x)) before.aims
      ∙ sym (paired_more (one_aim standing) g params xs i d x h k e);
  values = also.values ∙ ap (λ l. l ++ one_value standing (slice_index_or params i d) (g x)) before.values
      ∙ sym (paired_more (one_value standing) g params xs i d x h k e);
}

pub arguments_all : {X : Type 0} (standing : Standing) (g : X → Resolved) (params : List (Option ℕ)) (xs : List X) (i : ℕ)
    → min (length params) (length xs) ≤ i → (found : Arguments)
    → AreArguments standing (take i params) (map g (take i xs)) found → AreArguments standing params (map g xs) found
arguments_all standing g params xs i h found are = record {
  callees = are.callees ∙ paired_all (one_callee standing) g i params xs h;
  aims = are.aims ∙ paired_all (one_aim standing) g i params xs h;
  values = are.values ∙ paired_all (one_value standing) g i params xs h;
}

-- the use of a declared function that takes as many
pub used_so : (standing : Standing) (s : kept.Signature) (number token count : ℕ) (args : List Resolved) (params : List (Option ℕ))
    → (found : Arguments) → length args ≡ count → params ≡ s.params → AreArguments standing params args found
    → takes false (signature_like s) count ≡ true
    → core_of (tree.Use token number found.callees found.values)
    ≡ use_of_placed standing (Some (number, signature_like s)) token args
used_so standing s number token count args params found few same are taken =
    core-use token number found.callees found.values
    ∙ ap (λ l. core.Use token number l (several (map core_of found.values)))
    (are.callees ∙ ap (λ ps. callees_of standing ps args) same)
    ∙ ap (λ l. core.Use token number (callees_of standing s.params args) (several l))
    (are.values ∙ ap (λ ps. values_of standing ps args) same)
    ∙ ap (λ b. if b
    then core.Use token number (callees_of standing s.params args) (several (values_of standing s.params args))
    else core.Absent token) (sym (ap (takes false (signature_like s)) few ∙ taken))

-- the use of named effects that take as many
pub effects_so : (standing : Standing) (s : kept.Signature) (number count : ℕ) (args : List Resolved) (params : List (Option ℕ))
    → (found : Arguments) (guard : Option Tree) → length args ≡ count → params ≡ s.params → AreArguments standing params args found
    → takes true (signature_like s) count ≡ true
    → Uses (option_map core_of guard) number found.callees found.aims (cores_of found.values) ∷ []
    ≡ acts_of_placed standing (option_map core_of guard) None None (Some (number, signature_like s)) args
effects_so standing s number count args params found guard few same are taken =
    let g : Option (Core one) = option_map core_of guard in
    ap (λ l. Uses g number l found.aims (cores_of found.values) ∷ [])
    (are.callees ∙ ap (λ ps. callees_of standing ps args) same)
    ∙ ap (λ l. Uses g number (callees_of standing s.params args) l (cores_of found.values) ∷ [])
    (are.aims ∙ ap (λ ps. aims_of standing ps args) same)
    ∙ ap (λ l. Uses g number (callees_of standing s.params args) (aims_of standing s.params args) (several l) ∷ [])
    (are.values ∙ ap (λ ps. values_of standing ps args) same)
    ∙ ap (λ b. if b
    then Uses g number (callees_of standing s.params args) (aims_of standing s.params args) (several (values_of standing s.params args)) ∷ []
    else []) (sym (ap (takes true (signature_like s)) few ∙ taken))

-- one effect more
pub acts_more : (standing : Standing) (effects : List Effect) (i : ℕ) (e : Effect) → i < length effects
    → e ≡ slice_index_or effects i e → (old new : List code.Act) (act : Option code.Act)
    → map act_of old ≡ acts_of standing (take i effects) → new ≡ old ++ option_to_list act
    → map act_of (option_to_list act) ≡ acts_of_effect standing e
    → map act_of new ≡ acts_of standing (take (i + 1) effects)
acts_more standing effects i e within is old new act before added same =
    ap (map act_of) added ∙ map-append act_of old (option_to_list act)
    ∙ ap (λ l. l ++ map act_of (option_to_list act)) before
    ∙ ap (λ l. acts_of standing (take i effects) ++ l) (same ∙ sym (append-nil (acts_of_effect standing e)))
    ∙ sym (flat_map-append (acts_of_effect standing) (take i effects) (e ∷ []))
    ∙ ap (λ x. acts_of standing (take i effects ++ x ∷ [])) is
    ∙ ap (acts_of standing) (sym (take_more effects i e within))
