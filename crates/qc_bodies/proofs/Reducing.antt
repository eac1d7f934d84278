-- Uses by the shapes of functions.
use Rattle.std.proofs.Common.{◌≡◌, ℕ, List, [], ◌∷◌, ◌++◌, map, slice_get, Option, None, Some, refl, sym, ◌∙◌, ap, subst}
use Rattle.std.proofs.lemmas.List.{map-append}
use Rattle.std.proofs.lemmas.Option.{slice_get-map}
use Rattle.qc_bodies.specs.declared.shape.Shape.{Shape}
use Rattle.qc_bodies.specs.declared.shape.Shape.TheVariants as shape
use Rattle.qc_bodies.specs.Trees.{Core, one, Absent, Use, several}
use Rattle.qc_bodies.specs.Meanings.{Meaning, used, value, value_or}
use Rattle.qc_bodies.specs.Nodes.{placed}
use Rattle.qc_bodies.specs.Normals.{at_places}
use Rattle.qc_bodies.specs.Shapes.{AreShapes, IsShape}
use Rattle.qc_bodies.specs.Written.{written}
use Rattle.qc_bodies.specs.Inner.Reducing.{Stay}
use Rattle.qc_bodies.specs.Law.Related.{RelOption, related_get}
use Rattle.qc_bodies.proofs.Expanding.{out_or, out_places}

pub value_all : (ms : List (Meaning (Core one))) (es xs : List (Core one))
    → value written ms [] es (several xs) ≡ map (value written ms [] es) xs
value_all ms es [] = refl
value_all ms es (x ∷ xs) = ap (λ l. value written ms [] es x ∷ l) (value_all ms es xs)

no_use : (own : List (Meaning (Core one))) (token : ℕ) (s : Option Shape) (m : Option (Meaning (Core one))) → RelOption (IsShape own) s m
    → (vs : List (Core one)) → s ≡ None → used written token m [] vs ≡ Absent token
no_use own token None None r vs e = refl
no_use own token None (Some m) r vs e = absurd r
no_use own token (Some s) m r vs e = cc

-- of a function that there isn't
pub unshaped : (own : List (Meaning (Core one))) (shapes : List Shape) (ms : List (Meaning (Core one))) → AreShapes own shapes ms
    → (token number : ℕ) (vs : List (Core one)) → slice_get shapes number ≡ None
    → used written token (slice_get ms number) [] vs ≡ Absent token
unshaped own shapes ms fits token number vs e =
    no_use own token (slice_get shapes number) (slice_get ms number) (related_get (IsShape own) shapes ms number fits) vs e

shaped_by : (own : List (Meaning (Core one))) (token : ℕ) (s : Option Shape) (m : Option (Meaning (Core one))) → RelOption (IsShape own) s m
    → (x : Shape) → s ≡ Some x
    → (n : Meaning (Core one)) × IsShape own x n × ((vs : List (Core one)) → used written token m [] vs ≡ n.value [] vs)
shaped_by own token None m r x e = cc
shaped_by own token (Some s) None r x e = absurd r
shaped_by own token (Some s) (Some m) r x e =
    let same : s ≡ x = cc in
    (m, subst (λ y. IsShape own y m) same r, λ vs. refl)

-- of a function of a shape
pub shaped : (own : List (Meaning (Core one))) (shapes : List Shape) (ms : List (Meaning (Core one))) → AreShapes own shapes ms
    → (token number : ℕ) (x : Shape) → slice_get shapes number ≡ Some x
    → (n : Meaning (Core one)) × IsShape own x n × ((vs : List (Core one)) → used written token (slice_get ms number) [] vs ≡ n.value [] vs)
shaped own shapes ms fits token number x e =
    shaped_by own token (slice_get shapes number) (slice_get ms number) (related_get (IsShape own) shapes ms number fits) x e

used_function : (own : List (Meaning (Core one))) (token number : ℕ) (f : Meaning (Core one)) (vs : List (Core one))
    → slice_get own number ≡ Some f → used written token (slice_get own number) [] vs ≡ f.value [] vs
used_function own token number f vs e = ap (λ m. used written token m [] vs) e

-- the use of a function that has something of its own
pub use_of_function : (own : List (Meaning (Core one))) (token number : ℕ) (needed chosen : List ℕ) (m : Meaning (Core one))
    → IsShape own (shape.Function number needed chosen) m → (es xs vs : List (Core one))
    → map (value written own [] es) xs ≡ at_places vs needed
    → value written own [] es (Use token number [] (several (at_places xs chosen))) ≡ m.value [] vs
use_of_function own token number needed chosen m is es xs vs h =
    let g = value written own [] es in
    ap (used written token (slice_get own number) []) (value_all own es (at_places xs chosen) ∙ (out_places g refl xs chosen
    ∙ ap (λ l. at_places l chosen) h))
    ∙ (used_function own token number is.function (at_places (at_places vs needed) chosen) is.is ∙ sym (is.same vs))

pub argument_shape : (own : List (Meaning (Core one))) (s : Shape) (m : Meaning (Core one)) → IsShape own s m → (number : ℕ)
    → s ≡ shape.Argument number → (vs : List (Core one)) → m.value [] vs ≡ placed vs number
argument_shape own (shape.Argument n) m is number e vs = let same : n ≡ number = cc in is vs ∙ ap (placed vs) same
argument_shape own (shape.Function n needed chosen) m is number e vs = cc

pub function_shape : (own : List (Meaning (Core one))) (s : Shape) (m : Meaning (Core one)) → IsShape own s m
    → (number : ℕ) (needed chosen : List ℕ) → s ≡ shape.Function number needed chosen
    → IsShape own (shape.Function number needed chosen) m
function_shape own s m is number needed chosen e = subst (λ x. IsShape own x m) e is

-- the value of an argument
pub placed_value : (ms : List (Meaning (Core one))) (es xs : List (Core one)) (k : ℕ)
    → value written ms [] es (placed xs k) ≡ placed (map (value written ms [] es) xs) k
placed_value ms es xs k =
    out_or (value written ms [] es) refl (slice_get xs k)
    ∙ ap (value_or (Absent 0)) (sym (slice_get-map (value written ms [] es) xs k))

pub map_push : {A : Type 0} (f g : Core one → Core one) (h : A → Core one) (xs : List A) (x : A) (ys : List (Core one)) (y : Core one)
    → map f (map h xs) ≡ map g ys → f (h x) ≡ g y → map f (map h (xs ++ x ∷ [])) ≡ map g (ys ++ y ∷ [])
map_push f g h xs x ys y e k =
    ap (map f) (map-append h xs (x ∷ [])) ∙ (map-append f (map h xs) (h x ∷ []) ∙ (ap (λ l. l ++ f (h x) ∷ []) e
    ∙ (ap (λ z. map g ys ++ z ∷ []) k ∙ sym (map-append g ys (y ∷ [])))))

-- shapes stay where functions are added
shape_stays : (old new : List (Meaning (Core one))) → Stay old new → (s : Shape) (m : Meaning (Core one)) → IsShape old s m → IsShape new s m
shape_stays old new stay (shape.Argument number) m is = is
shape_stays old new stay (shape.Function number needed chosen) m is =
    record { function = is.function; is = stay number is.function is.is; same = is.same }

pub shapes_stay : (old new : List (Meaning (Core one))) → Stay old new → (shapes : List Shape) (ms : List (Meaning (Core one)))
    → AreShapes old shapes ms → AreShapes new shapes ms
shapes_stay old new stay [] [] h = tt
shapes_stay old new stay [] (m ∷ ms) h = absurd h
shapes_stay old new stay (s ∷ ss) [] h = absurd h
shapes_stay old new stay (s ∷ ss) (m ∷ ms) h = (shape_stays old new stay s m h.0, shapes_stay old new stay ss ms h.1)
