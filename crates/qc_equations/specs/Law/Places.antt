-- What holds between a term and what a change, as a law, gives for it holds also where it is made at a place, and after steps.
use Rattle.std.proofs.Common.{◌≡◌, ◌∙◌, ℕ, List, [], ◌∷◌, Bool, true, false, Option, None, Some, cond, nat_eq, refl, ap, sym, subst, option_and_then}
use Rattle.std.specs.Option.{option_map}
use Rattle.qc_words.specs.declared.operator.Op.{Op}
use Rattle.qc_words.specs.Operators.{Accepts, result_width_of}
use Rattle.qc_terms.specs.Tree.{Tree, Binary, Load, Unary, width_of}
use Rattle.qc_equations.specs.declared.names.Law.{Law}
use Rattle.qc_equations.specs.Alike.{AreAlike}
use Rattle.qc_equations.specs.Law.Alike.{under-left, under-load, under-right, under-unary}
use Rattle.qc_equations.specs.Law.Fill.{GoesByWidths}
use Rattle.qc_equations.specs.Law.Widths.{gives-holds, gives-width}
use Rattle.qc_equations.specs.Steps.{after_steps, at, rewritten}
use Rattle.qc_equations.specs.Table.{gives}

-- what holds between two terms holds between the same terms at one place of a third
pub record IsKeptAtPlaces (Rel : Tree → Tree → Type 0) : Type 0 where
  pub unary : (op : Op) (t u : Tree) → Rel t u → Rel (Unary op t) (Unary op u)
  pub left : (op : Op) (t u right : Tree) → Rel t u → Rel (Binary op t right) (Binary op u right)
  pub right : (op : Op) (left t u : Tree) → Rel t u → Rel (Binary op left t) (Binary op left u)
  pub load : (width : ℕ) (t u : Tree) → Rel t u → Rel (Load width t) (Load width u)

pub alike-at_places : IsKeptAtPlaces AreAlike
alike-at_places = record { unary = under-unary; left = under-left; right = under-right; load = under-load }

mapped : (it : Option Tree) (f : Tree → Tree) (Goal : Tree → Type 0) (u : Tree) → option_map f it ≡ Some u →
    ((v : Tree) → it ≡ Some v → Goal (f v)) → Goal u
mapped None f Goal u e each = cc
mapped (Some v) f Goal u e each = let same : f v ≡ u = cc in subst Goal same (each v refl)

branches : (test : Bool) (x y : Option Tree) (u : Tree) (Goal : Type 0) → cond test x y ≡ Some u → (x ≡ Some u → Goal) →
    (y ≡ Some u → Goal) → Goal
branches true x y u Goal e first second = first e
branches false x y u Goal e first second = second e

pub at-place : (Rel : Tree → Tree → Type 0) → IsKeptAtPlaces Rel → (change : Tree → Option Tree) →
    ((t u : Tree) → change t ≡ Some u → Rel t u) → (place : List ℕ) (t u : Tree) → at change place t ≡ Some u → Rel t u
at-place Rel kept change base [] t u e = base t u e
at-place Rel kept change base (number ∷ place) (Unary op arg) u e =
    branches (nat_eq number 0) (option_map (Unary op) (at change place arg)) None u (Rel (Unary op arg) u) e
    (λ here. mapped (at change place arg) (Unary op) (Rel (Unary op arg)) u here
    (λ v is. kept.unary op arg v (at-place Rel kept change base place arg v is)))
    (λ none. cc)
at-place Rel kept change base (number ∷ place) (Binary op left right) u e =
    let on_left = option_map (λ v. Binary op v right) (at change place left) in
    let on_right = option_map (Binary op left) (at change place right) in
    let Goal = Rel (Binary op left right) in
    branches (nat_eq number 0) on_left (cond (nat_eq number 1) on_right None) u (Goal u) e
    (λ here. mapped (at change place left) (λ v. Binary op v right) Goal u here
    (λ v is. kept.left op left v right (at-place Rel kept change base place left v is)))
    (λ there. branches (nat_eq number 1) on_right None u (Goal u) there
    (λ here. mapped (at change place right) (Binary op left) Goal u here
    (λ v is. kept.right op left right v (at-place Rel kept change base place right v is)))
    (λ none. cc))
at-place Rel kept change base (number ∷ place) (Load width address) u e =
    branches (nat_eq number 0) (option_map (Load width) (at change place address)) None u (Rel (Load width address) u) e
    (λ here. mapped (at change place address) (Load width) (Rel (Load width address)) u here
    (λ v is. kept.load width address v (at-place Rel kept change base place address v is)))
    (λ none. cc)
at-place Rel kept change base (number ∷ place) _ u e = cc

through : (Rel : Tree → Tree → Type 0) → ((t u v : Tree) → Rel t u → Rel u v → Rel t v) → (it : Option Tree) (rest : Tree → Option Tree)
    (t u : Tree) → option_and_then rest it ≡ Some u → ((v : Tree) → it ≡ Some v → Rel t v) →
    ((v : Tree) → rest v ≡ Some u → Rel v u) → Rel t u
through Rel trans None rest t u e first second = cc
through Rel trans (Some v) rest t u e first second = trans t v u (first v refl) (second v e)

pub at-steps : (Rel : Tree → Tree → Type 0) → IsKeptAtPlaces Rel → ((t : Tree) → Rel t t) →
    ((t u v : Tree) → Rel t u → Rel u v → Rel t v) → ((law : Law) (t u : Tree) → gives law t ≡ Some u → Rel t u) →
    (steps : List (Law × List ℕ)) (t u : Tree) → after_steps steps t ≡ Some u → Rel t u
at-steps Rel kept same trans base [] t u e = let end : t ≡ u = cc in subst (λ (v : Tree). Rel t v) end (same t)
at-steps Rel kept same trans base (step ∷ steps) t u e =
    through Rel trans (rewritten step.0 step.1 t) (after_steps steps) t u e
    (at-place Rel kept (gives step.0) (base step.0) step.1 t)
    (λ v. at-steps Rel kept same trans base steps v u)

-- ---- what goes by widths

-- a fact that goes to a load's address, and comes from another address of the same width
pub record GoesThroughLoads (Holds : Tree → Type 0) : Type 0 where
  pub address : (width : ℕ) (address : Tree) → Holds (Load width address) → Holds address
  pub load : (width : ℕ) (address other : Tree) → width_of other ≡ width_of address → Holds (Load width address) →
      Holds other → Holds (Load width other)

-- where the fact holds of the first term, it holds of the second, which has the same width
abbrev pub Keeps : (Tree → Type 0) → Tree → Tree → Type 0
Keeps Holds t u = Holds t → Holds u × (width_of u ≡ width_of t)

pub kept-at_places : (Holds : Tree → Type 0) → GoesByWidths Holds → GoesThroughLoads Holds → IsKeptAtPlaces (Keeps Holds)
kept-at_places Holds by loads = record {
  unary = λ op t u keeps holds.
      let it = by.unary_parts op t holds in
      let new = keeps it.2 in (
        by.unary op u (it.0, subst (λ w. Accepts op w) (sym new.1) it.1, new.0),
        ap (result_width_of op) new.1,
      );
  left = λ op t u right keeps holds.
      let it = by.binary_parts op t right holds in
      let new = keeps it.3 in (
        by.binary op u right (it.0, subst (λ w. Accepts op w) (sym new.1) it.1, new.1 ∙ it.2, new.0, it.4),
        ap (result_width_of op) new.1,
      );
  right = λ op left t u keeps holds.
      let it = by.binary_parts op left t holds in
      let new = keeps it.4 in
      (by.binary op left u (it.0, it.1, it.2 ∙ sym new.1, it.3, new.0), refl);
  load = λ width t u keeps holds.
      let new = keeps (loads.address width t holds) in (loads.load width t u new.1 holds new.0, refl);
}

pub rewritten-holds : (Holds : Tree → Type 0) → GoesByWidths Holds → GoesThroughLoads Holds → (law : Law) (place : List ℕ)
    (t u : Tree) → rewritten law place t ≡ Some u → Keeps Holds t u
rewritten-holds Holds by loads law place t u e =
    at-place (Keeps Holds) (kept-at_places Holds by loads) (gives law)
    (λ t u given holds. (gives-holds Holds by law t u given holds, gives-width Holds by law t u given holds)) place t u e
