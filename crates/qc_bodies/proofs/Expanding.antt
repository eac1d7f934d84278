-- What expressions come to where they are written out by rank.
use Rattle.std.proofs.Common.{◌≡◌, ◌<◌, ◌≤◌, ℕ, zero, suc, List, [], ◌∷◌, length, map, take, slice_get, Option, None, Some, refl, sym, ◌∙◌, ap, arith, inl, inr, ◌⊎◌}
use Rattle.std.specs.List.{AllZip}
use Rattle.std.specs.Option.{option_map}
use Rattle.std.proofs.lemmas.Bool.{cases_lt}
use Rattle.std.proofs.lemmas.List.{length-map}
use Rattle.std.proofs.lemmas.Option.{slice_get-map, slice_get_past}
use Rattle.qc_bodies.specs.declared.nodes.Node.{Node}
use Rattle.qc_bodies.specs.declared.normal.Normals.{Normals}
use Rattle.qc_bodies.specs.declared.normal.Ranked.{Ranked}
use Rattle.qc_bodies.specs.Trees.{Core, one, Absent, Param, Use, several}
use Rattle.qc_bodies.specs.Meanings.{Meaning, used, value, value_or}
use Rattle.qc_bodies.specs.Nodes.{IsAt}
use Rattle.qc_bodies.specs.Normals.{at_places, function_of, functions_of, normal_of, ranked, ranked_param}
use Rattle.qc_bodies.specs.Written.{written}
use Rattle.qc_bodies.specs.Inner.Expanding.{Parameters, out, place_of_rank, written_functions}
use Rattle.qc_bodies.specs.Law.Declared.{meaning_at, length_meanings}
use Rattle.qc_bodies.proofs.Placed.{argument_at, no_argument_at}

pub out_several : (ms : List (Meaning (Core one))) (ranks : List (Option ℕ)) (es xs : List (Core one))
    → value written ms [] es (ranked ranks (several xs)) ≡ map (out ms ranks es) xs
out_several ms ranks es [] = refl
out_several ms ranks es (x ∷ xs) = ap (λ l. out ms ranks es x ∷ l) (out_several ms ranks es xs)

pub out_or : (g : Core one → Core one) → g (Absent 0) ≡ Absent 0 → (o : Option (Core one))
    → g (value_or (Absent 0) o) ≡ value_or (Absent 0) (option_map g o)
out_or g e None = e
out_or g e (Some x) = refl

pub out_places : (g : Core one → Core one) → g (Absent 0) ≡ Absent 0 → (xs : List (Core one)) (chosen : List ℕ)
    → map g (at_places xs chosen) ≡ at_places (map g xs) chosen
out_places g e xs [] = refl
out_places g e xs (k ∷ ks) =
    ap (λ x. x ∷ map g (at_places xs ks)) (out_or g e (slice_get xs k) ∙ ap (value_or (Absent 0)) (sym (slice_get-map g xs k)))
    ∙ ap (λ l. value_or (Absent 0) (slice_get (map g xs) k) ∷ l) (out_places g e xs ks)

-- a use of some of the arguments
pub out_use : (ms : List (Meaning (Core one))) (ranks : List (Option ℕ)) (es : List (Core one)) (token number : ℕ)
    → (args : List (Core one)) (chosen : List ℕ)
    → out ms ranks es (Use token number [] (several (at_places args chosen)))
    ≡ used written token (slice_get ms number) [] (at_places (map (out ms ranks es) args) chosen)
out_use ms ranks es token number args chosen =
    ap (used written token (slice_get ms number) [])
    (out_several ms ranks es (at_places args chosen) ∙ out_places (out ms ranks es) refl args chosen)

-- a parameter
by_rank : (ms : List (Meaning (Core one))) (nodes : List Node) (places : List ℕ) (es : List (Core one)) (place : ℕ)
    → AllZip (IsAt nodes) places es → (rank : Option (Option ℕ)) → place_of_rank places rank ≡ Some place
    → IsAt nodes place (value written ms [] es (ranked_param rank))
by_rank ms nodes places es place h None e = cc
by_rank ms nodes places es place h (Some None) e = cc
by_rank ms nodes places es place h (Some (Some rank)) e = argument_at nodes places es rank place h e

pub parameter_out : (ms : List (Meaning (Core one))) (nodes : List Node) (ranks : List (Option ℕ)) (places : List ℕ) (es : List (Core one))
    → (number place : ℕ) → AllZip (IsAt nodes) places es → Parameters ranks places number ≡ Some place
    → IsAt nodes place (out ms ranks es (Param number))
parameter_out ms nodes ranks places es number place h e = by_rank ms nodes places es place h (slice_get ranks number) e

by_no_rank : (ms : List (Meaning (Core one))) (nodes : List Node) (places : List ℕ) (es : List (Core one))
    → AllZip (IsAt nodes) places es → (rank : Option (Option ℕ)) → place_of_rank places rank ≡ None
    → value written ms [] es (ranked_param rank) ≡ Absent 0
by_no_rank ms nodes places es h None e = refl
by_no_rank ms nodes places es h (Some None) e = refl
by_no_rank ms nodes places es h (Some (Some rank)) e = no_argument_at nodes places es rank h e

pub no_parameter_out : (ms : List (Meaning (Core one))) (nodes : List Node) (ranks : List (Option ℕ)) (places : List ℕ) (es : List (Core one))
    → (number : ℕ) → AllZip (IsAt nodes) places es → Parameters ranks places number ≡ None
    → out ms ranks es (Param number) ≡ Absent 0
no_parameter_out ms nodes ranks places es number h e = by_no_rank ms nodes places es h (slice_get ranks number) e

-- of the first so many of a list
pub get_take : {A : Type 0} (xs : List A) (level number : ℕ) → number < level → slice_get (take level xs) number ≡ slice_get xs number
get_take xs zero number h = absurd (omega arith)
get_take [] (suc level) number h = refl
get_take (x ∷ xs) (suc level) zero h = refl
get_take (x ∷ xs) (suc level) (suc number) h = get_take xs level number (omega arith)

pub get_past : {A : Type 0} (xs : List A) (level number : ℕ) → level ≤ number → slice_get (take level xs) number ≡ None
get_past xs zero number h = refl
get_past [] (suc level) number h = refl
get_past (x ∷ xs) (suc level) zero h = absurd (omega arith)
get_past (x ∷ xs) (suc level) (suc number) h = get_past xs level number (omega arith)

-- a function below the level
pub function_out : (normals : Normals) (level number token : ℕ) (es : List (Core one)) (f : Ranked)
    → slice_get (take level normals.functions) number ≡ Some f
    → (number < level) × (used written token (slice_get (take level (written_functions normals)) number) [] es
    ≡ out (take number (written_functions normals)) f.ranks es (normal_of f.body))
function_out normals level number token es f e = below (cases_lt number level)
  where
    below : (number < level) ⊎ (level ≤ number)
        → (number < level) × (used written token (slice_get (take level (written_functions normals)) number) [] es
        ≡ out (take number (written_functions normals)) f.ranks es (normal_of f.body))
    below (inl h) =
        let get : slice_get normals.functions number ≡ Some f = sym (get_take normals.functions level number h) ∙ e in
        let body : slice_get (functions_of normals) number ≡ Some (function_of f) =
        slice_get-map function_of normals.functions number ∙ ap (option_map function_of) get in (
          h,
          ap (λ m. used written token m [] es) (get_take (written_functions normals) level number h
              ∙ meaning_at written (functions_of normals) number (function_of f) body),
        )
    below (inr h) =
        let none : slice_get (take level normals.functions) number ≡ None = get_past normals.functions level number h in
        absurd (cc)

none_past : {A : Type 0} (xs : List A) (number : ℕ) → slice_get xs number ≡ None → length xs ≤ number
none_past [] number e = omega arith
none_past (x ∷ xs) zero e = absurd (cc)
none_past (x ∷ xs) (suc number) e = let h = none_past xs number e in omega arith

pub no_function_out : (normals : Normals) (level number token : ℕ) (es : List (Core one))
    → slice_get (take level normals.functions) number ≡ None
    → used written token (slice_get (take level (written_functions normals)) number) [] es ≡ Absent token
no_function_out normals level number token es e = below (cases_lt number level)
  where
    below : (number < level) ⊎ (level ≤ number)
        → used written token (slice_get (take level (written_functions normals)) number) [] es ≡ Absent token
    below (inl h) =
        let get : slice_get normals.functions number ≡ None = sym (get_take normals.functions level number h) ∙ e in
        let count : length (written_functions normals) ≡ length normals.functions =
        length_meanings written (functions_of normals) ∙ length-map normals.functions function_of in
        let past : length normals.functions ≤ number = none_past normals.functions number get in
        ap (λ m. used written token m [] es) (get_take (written_functions normals) level number h
        ∙ slice_get_past (written_functions normals) number (omega arith))
    below (inr h) = ap (λ m. used written token m [] es) (get_past (written_functions normals) level number h)
