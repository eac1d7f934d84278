-- What is written out once comes to the same as what is used: an expression that was written out for parameters comes, for what
-- these stand for, to what the expression itself comes to there.
use Rattle.std.proofs.Common.{◌≡◌, ℕ, true, List, [], ◌∷◌, length, refl, ◌∙◌, ap, eq-eqb}
use Rattle.std.specs.Prelude.{nat_eq}
use Rattle.std.specs.List.{AllZip}
use Rattle.qc_words.specs.declared.operator.Op.{Op}
use Rattle.qc_bodies.specs.Trees.{Core, one, several}
use Rattle.qc_bodies.specs.Law.Acts.{Body}
use Rattle.qc_bodies.specs.Meanings.{Algebra, Fun, value, operated, operands_of, meanings}
use Rattle.qc_bodies.specs.Written.{written}
use Rattle.qc_bodies.specs.Law.Related.{RelAlgebra, RelFun, related_value, related_meanings, related_length}

-- an expression comes to a value where nothing is declared
abbrev pub ComesTo : {V : Type 0} → Algebra V → List (Fun V) → List V → Core one → V → Type 0
ComesTo a fs vs e v = value a [] fs vs e ≡ v

pub several_come_to : {V : Type 0} (a : Algebra V) (fs : List (Fun V)) (vs : List V) (es : List (Core one)) (ws : List V)
    → AllZip (ComesTo a fs vs) es ws → value a [] fs vs (several es) ≡ ws
several_come_to a fs vs [] [] r = refl
several_come_to a fs vs [] (w ∷ ws) r = absurd r
several_come_to a fs vs (e ∷ es) [] r = absurd r
several_come_to a fs vs (e ∷ es) (w ∷ ws) r =
    ap (λ x. x ∷ value a [] fs vs (several es)) r.0 ∙ ap (λ xs. w ∷ xs) (several_come_to a fs vs es ws r.1)

operates : {V : Type 0} (a : Algebra V) (token : ℕ) (op : Op) (ws : List V) → nat_eq (operands_of op) (length ws) ≡ true
    → operated a token op ws ≡ a.operate token op ws
operates a token op ws e = rw e

pub comes_to_algebra : {V : Type 0} (a : Algebra V) (fs : List (Fun V)) (vs : List V) → RelAlgebra (ComesTo a fs vs) written a
comes_to_algebra a fs vs = record {
  leaf = λ token leaf width. refl;
  absent = λ token. refl;
  wrap = λ token wrap width e w r. ap (a.wrap token wrap width) r;
  operate = λ token op es ws count r.
      ap (operated a token op) (several_come_to a fs vs es ws r)
      ∙ operates a token op ws (eq-eqb (operands_of op) (length ws) (count ∙ related_length (ComesTo a fs vs) es ws r));
}

-- for parameters that were written as expressions which come to what they stand for
pub comes_to_the_same : {V : Type 0} (a : Algebra V) (bodies : List Body) (fs : List (Fun V)) (vs : List V)
    → (gs : List (Fun (Core one))) (hs : List (Fun V)) → AllZip (RelFun (ComesTo a fs vs)) gs hs
    → (es : List (Core one)) (ws : List V) → AllZip (ComesTo a fs vs) es ws
    → (e : Core one)
    → value a [] fs vs (value written (meanings written bodies) gs es e) ≡ value a (meanings a bodies) hs ws e
comes_to_the_same a bodies fs vs gs hs p es ws o e =
    let r = comes_to_algebra a fs vs in
    related_value (ComesTo a fs vs) written a r (meanings written bodies) (meanings a bodies)
    (related_meanings (ComesTo a fs vs) written a r bodies) gs hs p es ws o e

-- for an expression without parameters
pub written_first : {V : Type 0} (a : Algebra V) (bodies : List Body) (e : Core one)
    → value a [] [] [] (value written (meanings written bodies) [] [] e) ≡ value a (meanings a bodies) [] [] e
written_first a bodies e = comes_to_the_same a bodies [] [] [] [] tt [] [] tt e
