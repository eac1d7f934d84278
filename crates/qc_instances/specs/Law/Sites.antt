-- Expressions written out where they stand come to the same over any way to make values.
use Rattle.std.proofs.Common.{◌≡◌, ℕ, zero, suc, List, [], ◌∷◌, take}
use Rattle.std.specs.List.{AllZip}
use Rattle.qc_bodies.specs.declared.tree.Callee.{Callee}
use Rattle.qc_bodies.specs.Law.Acts.{Body}
use Rattle.qc_bodies.specs.Law.Related.{RelFun, RelMeaning, RelAlgebra, related_fun, related_map, related_meanings, related_value}
use Rattle.qc_bodies.specs.Law.Templates.{ComesTo, comes_to_algebra}
use Rattle.qc_bodies.specs.Trees.{Core, one}
use Rattle.qc_bodies.specs.Meanings.{Algebra, Meaning, fun_of, meanings, value}
use Rattle.qc_bodies.specs.Written.{written}
use Rattle.qc_instances.specs.declared.instance.Site.{Site}
use Rattle.qc_instances.specs.Instances.{funs_of, valued_at}

pub related_take : {V W : Type 0} (R : V → W → Type 0) (vs : List V) (ws : List W) (k : ℕ) → AllZip R vs ws → AllZip R (take k vs) (take k ws)
related_take R vs ws zero r = tt
related_take R [] [] (suc k) r = tt
related_take R [] (w ∷ ws) (suc k) r = absurd r
related_take R (v ∷ vs) [] (suc k) r = absurd r
related_take R (v ∷ vs) (w ∷ ws) (suc k) r = (r.0, related_take R vs ws k r.1)

pub related_funs : {V W : Type 0} (R : V → W → Type 0) (a : Algebra V) (b : Algebra W) → RelAlgebra R a b
    → (ms : List (Meaning V)) (ns : List (Meaning W)) → AllZip (RelMeaning R) ms ns → (given : List Callee)
    → AllZip (RelFun R) (funs_of a ms given) (funs_of b ns given)
related_funs R a b r ms ns q given = related_map (RelFun R) (fun_of a ms []) (fun_of b ns []) (related_fun R a b r ms ns q [] [] tt) given

-- for parameters that were written as expressions which come to what they stand for
pub comes_where_it_stands : {V : Type 0} (a : Algebra V) (bodies : List Body) (site : Site) (vs : List V)
    → (es : List (Core one)) (ws : List V) → AllZip (ComesTo a [] vs) es ws → (e : Core one)
    → value a [] [] vs (valued_at written (meanings written bodies) site es e) ≡ valued_at a (meanings a bodies) site ws e
comes_where_it_stands a bodies site vs es ws o e =
    let R = ComesTo a [] vs in
    let r = comes_to_algebra a [] vs in
    let all = related_meanings R written a r bodies in
    related_value R written a r _ _
    (related_take (RelMeaning R) (meanings written bodies) (meanings a bodies) site.level all)
    (funs_of written (meanings written bodies) site.given.now) (funs_of a (meanings a bodies) site.given.now)
    (related_funs R written a r (meanings written bodies) (meanings a bodies) all site.given.now) es ws o e
