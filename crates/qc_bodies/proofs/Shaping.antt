-- The shapes of functions.
use Rattle.std.proofs.Common.{◌≡◌, ◌+◌, ◌<◌, ℕ, zero, suc, List, [], ◌∷◌, ◌++◌, length, map, take, slice_get, Option, None, Some, IfSome, refl, sym, ◌∙◌, ap, arith}
use Rattle.std.specs.Option.{option_map}
use Rattle.std.proofs.lemmas.List.{take_more, map-append, length-map}
use Rattle.std.proofs.lemmas.Option.{slice_get-map, slice_get-get_or, slice_get_within}
use Rattle.qc_lists.specs.Law.Lists.{slice_get-append_left, slice_get-append_right}
use Rattle.qc_bodies.specs.declared.normal.Normal.{Normal}
use Rattle.qc_bodies.specs.declared.normal.Normal.TheVariants as code
use Rattle.qc_bodies.specs.declared.normal.Normals.{Normals}
use Rattle.qc_bodies.specs.declared.normal.Ranked.{Ranked}
use Rattle.qc_bodies.specs.Trees.{Core, one, Absent, Use, several}
use Rattle.qc_bodies.specs.Meanings.{Meaning, joined_option, meaning_of, meanings, used, value, value_or}
use Rattle.qc_bodies.specs.Nodes.{placed}
use Rattle.qc_bodies.specs.Normals.{at_places, function_of, functions_of, normal_of, normal-param}
use Rattle.qc_bodies.specs.Shapes.{IsUseOf}
use Rattle.qc_bodies.specs.Written.{written}
use Rattle.qc_bodies.specs.Inner.Expanding.{written_functions}
use Rattle.qc_bodies.specs.Inner.Marking.{Each, IsRanked}
use Rattle.qc_bodies.specs.Inner.Reducing.{ComesTo, Stay}
use Rattle.qc_bodies.specs.Law.Declared.{length_meanings, meanings_push}
use Rattle.qc_bodies.proofs.Expanding.{out_places}
use Rattle.qc_bodies.proofs.Marking.{AreRanks, joined_some, ranked_value}
use Rattle.qc_bodies.proofs.Reducing.{value_all}

-- a parameter at a place, by its rank
pub rank_found : (o : Option ℕ) (ranks : List (Option ℕ)) (needed : List ℕ) → AreRanks ranks needed → (number : ℕ)
    → o ≡ joined_option (slice_get ranks number) → (args : List Normal) (place : ℕ) (arg : Normal)
    → slice_get args place ≡ Some arg → arg ≡ code.Param number
    → IfSome o (λ rank. (own : List (Meaning (Core one))) (es : List (Core one))
    → placed (map (value written own [] es) (map normal_of args)) place ≡ placed (at_places es needed) rank)
rank_found None ranks needed are number e args place arg get is = tt
rank_found (Some r) ranks needed are number e args place arg get is = λ own es.
    let g : Core one → Core one = value written own [] es in
    let has : slice_get needed r ≡ Some number = are number r (joined_some (slice_get ranks number) r (sym e)) in
    let left : slice_get (map g (map normal_of args)) place ≡ Some (placed es number) =
    slice_get-map g (map normal_of args) place
    ∙ (ap (option_map g) (slice_get-map normal_of args place ∙ ap (option_map normal_of) get)
    ∙ ap (λ x. Some (g x)) (ap normal_of is ∙ normal-param number)) in
    let right : slice_get (at_places es needed) r ≡ Some (placed es number) =
    slice_get-map (placed es) needed r ∙ ap (option_map (placed es)) has in
    ap (value_or (Absent 0)) (left ∙ sym right)

-- places in order
take_placed : (es : List (Core one)) (k : ℕ) → k < length es → take (k + 1) es ≡ take k es ++ placed es k ∷ []
take_placed es k h = take_more es k (Absent 0) h
    ∙ ap (λ x. take k es ++ x ∷ []) (sym (ap (value_or (Absent 0)) (slice_get-get_or es k (Absent 0) h)))

pub order_more : (es : List (Core one)) (places : List ℕ) (k : ℕ) → k < length es → at_places es places ≡ take k es
    → at_places es (places ++ k ∷ []) ≡ take (k + 1) es
order_more es places k h e =
    map-append (placed es) places (k ∷ []) ∙ (ap (λ l. l ++ placed es k ∷ []) e ∙ sym (take_placed es k h))

-- a use of parameters alone
pub get_within : {A : Type 0} (xs : List A) (k : ℕ) → k < length xs → (x : A) × (slice_get xs k ≡ Some x)
get_within [] k h = absurd (omega arith)
get_within (x ∷ xs) zero h = (x, refl)
get_within (x ∷ xs) (suc k) h = get_within xs k (omega arith)

pub renamed : (own : List (Meaning (Core one))) (token number : ℕ) (f : Meaning (Core one)) (args : List (Core one))
    → (chosen ranks needed : List ℕ) (es : List (Core one)) → slice_get own number ≡ Some f
    → at_places (map (value written own [] es) args) chosen ≡ at_places (at_places es needed) ranks
    → value written own [] es (Use token number [] (several (at_places args chosen))) ≡ f.value [] (at_places (at_places es needed) ranks)
renamed own token number f args chosen ranks needed es get e =
    ap (used written token (slice_get own number) []) (value_all own es (at_places args chosen)
    ∙ (out_places (value written own [] es) refl args chosen ∙ e))
    ∙ ap (λ m. used written token m [] (at_places (at_places es needed) ranks)) get

-- a function that is added
functions_push : (fs : List Ranked) (f : Ranked) → written_functions (record { functions = fs ++ f ∷ [] })
    ≡ written_functions (record { functions = fs }) ++ meaning_of written (written_functions (record { functions = fs })) (function_of f) ∷ []
functions_push fs f =
    ap (meanings written) (map-append function_of fs (f ∷ [])) ∙ meanings_push written (map function_of fs) (function_of f)

pub length_functions : (normals : Normals) → length (written_functions normals) ≡ length normals.functions
length_functions normals = length_meanings written (functions_of normals) ∙ length-map normals.functions function_of

pub kept_stay : (fs : List Ranked) (f : Ranked) → Stay (written_functions (record { functions = fs })) (written_functions (record { functions = fs ++ f ∷ [] }))
kept_stay fs f number m h =
    let ms = written_functions (record { functions = fs }) in
    ap (λ l. slice_get l number) (functions_push fs f)
    ∙ (slice_get-append_left ms _ number (slice_get_within ms number m h) ∙ h)

pub kept : (fs : List Ranked) (body : Normal) (ranks : List (Option ℕ)) (needed chosen : List ℕ) (m : Meaning (Core one))
    → Each (IsRanked ranks needed) (normal_of body)
    → ((es : List (Core one)) → length es ≡ length needed → at_places es chosen ≡ es)
    → ComesTo (written_functions (record { functions = fs })) m (normal_of body)
    → IsUseOf (written_functions (record { functions = fs ++ record { body = body; ranks = ranks } ∷ [] })) (length fs) needed chosen m
kept fs body ranks needed chosen m each order comes =
    let f : Ranked = record { body = body; ranks = ranks } in
    let ms = written_functions (record { functions = fs }) in
    let count : length fs ≡ length ms + 0 = omega (arith, length_functions (record { functions = fs })) in
    record {
      function = meaning_of written ms (function_of f);
      is = ap (λ l. slice_get l (length fs)) (functions_push fs f)
          ∙ (ap (slice_get (ms ++ meaning_of written ms (function_of f) ∷ [])) count
          ∙ slice_get-append_right ms (meaning_of written ms (function_of f) ∷ []) 0);
      same = λ es. comes es ∙ (sym (ranked_value ms ranks needed es (normal_of body) each)
          ∙ ap ((meaning_of written ms (function_of f)).value []) (sym (order (at_places es needed) (length-map needed (placed es)))));
    }
