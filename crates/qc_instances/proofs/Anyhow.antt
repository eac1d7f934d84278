-- What holds of expressions that are written out holds over any way to make values.
use Rattle.std.proofs.Common.{◌≡◌, ◌+◌, ℕ, suc, List, [], ◌∷◌, ◌++◌, length, take, slice_get, refl, sym, ◌∙◌, ap, subst, zero, arith, append_assoc, length-append}
use Rattle.std.specs.List.{AllZip}
use Rattle.qc_lists.specs.Law.Lists.{slice_get-append_right}
use Rattle.qc_bodies.specs.declared.tree.Callee.{Callee}
use Rattle.qc_bodies.specs.Law.Acts.{Body}
use Rattle.qc_bodies.specs.Law.Related.{RelFun, RelMeaning, RelAlgebra, related_fun, related_get, related_map, related_meanings, related_used, related_value}
use Rattle.qc_bodies.specs.Law.Templates.{ComesTo, comes_to_algebra}
use Rattle.qc_bodies.specs.Trees.{Core, one, Param}
use Rattle.qc_bodies.specs.Meanings.{Algebra, Meaning, fun_of, meanings, value, value_or}
use Rattle.qc_bodies.specs.Written.{written}
use Rattle.qc_instances.specs.declared.instance.Instance.{Instance}
use Rattle.qc_instances.specs.declared.instance.Site.{Site}
use Rattle.qc_instances.specs.Instances.{funs_of, instance_meaning, instance_meanings, valued_at}
use Rattle.qc_instances.specs.Inner.Closing.{IsBodyOf, IsClosed}
use Rattle.qc_instances.specs.Law.Sites.{comes_where_it_stands, related_funs}

-- the parameters of which the first has this number
params_from : {V : Type 0} → ℕ → List V → List (Core one)
params_from k [] = []
params_from k (v ∷ vs) = Param k ∷ params_from (k + 1) vs

they_come : {V : Type 0} (a : Algebra V) (before vs all : List V) → before ++ vs ≡ all
    → AllZip (ComesTo a [] all) (params_from (length before) vs) vs
unfolding params_from
they_come a before [] all e = tt
they_come a before (v ∷ vs) all e = (
  ap (value_or (a.absent 0)) (ap (λ l. slice_get l (length before)) (sym e)
      ∙ (ap (slice_get (before ++ v ∷ vs)) (let h : length before ≡ length before + 0 = omega arith in h)
      ∙ slice_get-append_right before (v ∷ vs) 0)),
  subst (λ k. AllZip (ComesTo a [] all) (params_from k vs) vs)
      (length-append before (v ∷ []))
      (they_come a (before ++ v ∷ []) vs all (append_assoc before (v ∷ []) vs ∙ e)),
)

-- instances
related_instance : {V W : Type 0} (R : V → W → Type 0) (a : Algebra V) (b : Algebra W) → RelAlgebra R a b
    → (ms : List (Meaning V)) (ns : List (Meaning W)) → AllZip (RelMeaning R) ms ns → (instance : Instance)
    → RelMeaning R (instance_meaning a ms instance) (instance_meaning b ns instance)
related_instance R a b r ms ns q instance = record {
  value = λ fs gs p vs ws o.
      related_used R a b r 0 (slice_get ms instance.number) (slice_get ns instance.number)
      (related_get (RelMeaning R) ms ns instance.number q)
      (funs_of a ms instance.given) (funs_of b ns instance.given) (related_funs R a b r ms ns q instance.given) vs ws o;
  does = λ fs gs p ts vs ws o. tt;
}

related_instances : {V W : Type 0} (R : V → W → Type 0) (a : Algebra V) (b : Algebra W) → RelAlgebra R a b
    → (ms : List (Meaning V)) (ns : List (Meaning W)) → AllZip (RelMeaning R) ms ns → (made : List Instance)
    → AllZip (RelMeaning R) (instance_meanings a ms made) (instance_meanings b ns made)
related_instances R a b r ms ns q made =
    related_map (RelMeaning R) (instance_meaning a ms) (instance_meaning b ns) (related_instance R a b r ms ns q) made

-- an expression of instances, from what is written out of it
plain_anyhow : {V : Type 0} (a : Algebra V) (bodies : List Body) (made : List Instance) (vs : List V) (p : Core one)
    → value a [] [] vs (value written (instance_meanings written (meanings written bodies) made) [] (params_from 0 vs) p)
    ≡ value a (instance_meanings a (meanings a bodies) made) [] vs p
plain_anyhow a bodies made vs p =
    let R = ComesTo a [] vs in
    let r = comes_to_algebra a [] vs in
    related_value R written a r _ _ (related_instances R written a r _ _ (related_meanings R written a r bodies) made)
    [] [] tt (params_from 0 vs) vs (they_come a [] vs vs refl) p

-- the body of an instance
pub body_anyhow : {V : Type 0} (a : Algebra V) (bodies : List Body) (made : List Instance) (instance : Instance) (p : Core one)
    → IsBodyOf bodies made instance p → (vs : List V)
    → (instance_meaning a (meanings a bodies) instance).value [] vs ≡ value a (instance_meanings a (meanings a bodies) made) [] vs p
body_anyhow a bodies made instance p is vs =
    let R = ComesTo a [] vs in
    let r = comes_to_algebra a [] vs in
    let q = related_meanings R written a r bodies in
    let same : value a [] [] vs ((instance_meaning written (meanings written bodies) instance).value [] (params_from 0 vs))
    ≡ (instance_meaning a (meanings a bodies) instance).value [] vs =
    (related_instance R written a r (meanings written bodies) (meanings a bodies) q instance).value [] [] tt (params_from 0 vs) vs (they_come a [] vs vs refl) in
    sym same ∙ (ap (value a [] [] vs) (sym (is (params_from 0 vs))) ∙ plain_anyhow a bodies made vs p)

-- an expression where it stands
pub closed_anyhow : {V : Type 0} (a : Algebra V) (bodies : List Body) (made : List Instance) (site : Site) (e p : Core one)
    → IsClosed bodies made site e p → (vs : List V)
    → value a (instance_meanings a (meanings a bodies) made) [] vs p ≡ valued_at a (meanings a bodies) site vs e
closed_anyhow a bodies made site e p is vs =
    sym (plain_anyhow a bodies made vs p) ∙ (ap (value a [] [] vs) (is (params_from 0 vs))
    ∙ comes_where_it_stands a bodies site vs (params_from 0 vs) vs (they_come a [] vs vs refl) e)
