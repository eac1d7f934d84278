-- A change at a place is one in the part that the place begins with.
use Rattle.std.proofs.Common.{arith, ◌≡◌, ◌<◌, ◌-◌, ◌∙◌, subst, length, drop, take, get_or, ℕ, List, ◌∷◌, Bool, true, false, Option, None, Some, cond, nat_eq, refl, ap, sym, option_and_then}
use Rattle.std.proofs.lemmas.List.{take_all}
use Rattle.std.proofs.Common.{length-drop}
use Rattle.std.proofs.Math.Seq.{drop-cons}
use Rattle.std.specs.Option.{option_map}
use Rattle.qc_terms.specs.Tree.{Tree, Binary, Load, Unary, Number, Register, Immediate, NextInput, AddressAfter, width_of}
use Rattle.qc_equations.specs.Law.Places.{GoesThroughLoads, rewritten-holds}
use Rattle.qc_equations.specs.Steps.{at, rewritten}
use Rattle.qc_equations.specs.Table.{gives}
use Rattle.qc_equations.specs.declared.names.Law.{Law}
use Rattle.qc_laws.specs.Law.Widths.{by_widths}
use Rattle.qc_laws.specs.Given.{IsGiven}
use Rattle.qc_pool.specs.Law.Kept.{added_at, added_keeps, kept_id, kept_on}
use Rattle.qc_pool.specs.Nodes.{term_at}
use Rattle.qc_pool.specs.Regions.{IsAdded, Keeps}
use Rattle.qc_pool.specs.Widths.{HasWidths}
use Rattle.qc_rewrite.specs.Inner.Parts.{HasWidthOf, part_of, with_part}

one : (test : Bool) (change : Tree → Option Tree) (f : Tree → Tree) (arg : Tree) →
    cond test (option_map f (change arg)) None ≡ option_map f (option_and_then change (cond test (Some arg) None))
one true change f arg = refl
one false change f arg = refl

two : (first second : Bool) (change : Tree → Option Tree) (f g : Tree → Tree) (left right : Tree) →
    cond first (option_map f (change left)) (cond second (option_map g (change right)) None)
    ≡ option_map (λ v. cond first (f v) (g v)) (option_and_then change (cond first (Some left) (cond second (Some right) None)))
two true second change f g left right = refl
two false true change f g left right = refl
two false false change f g left right = refl

pub at_part : (change : Tree → Option Tree) (number : ℕ) (place : List ℕ) (t : Tree) →
    at change (number ∷ place) t ≡ option_map (λ v. with_part number v t) (option_and_then (at change place) (part_of t number))
at_part change number place (Unary op arg) = one (nat_eq number 0) (at change place) (Unary op) arg
at_part change number place (Binary op left right) =
    two (nat_eq number 0) (nat_eq number 1) (at change place) (λ v. Binary op v right) (Binary op left) left right
at_part change number place (Load width address) = one (nat_eq number 0) (at change place) (Load width) address
at_part change number place (Number value width) = refl
at_part change number place (Register p width) = refl
at_part change number place (Immediate operand width) = refl
at_part change number place (NextInput width) = refl
at_part change number place (AddressAfter width) = refl

loads : GoesThroughLoads HasWidths
loads = record { address = λ width address holds. holds; load = λ width address other same holds new. new }

-- what a law gives at a place has the width of the term
pub rewritten-width : (law : Law) (place : List ℕ) (t u : Tree) → rewritten law place t ≡ Some u → HasWidths t →
    width_of u ≡ width_of t
rewritten-width law place t u is holds = (rewritten-holds HasWidths by_widths loads law place t u is holds).1

-- the place in the part that the place begins with
abbrev pub tail_of : List ℕ → List ℕ
tail_of place = take (length place - 1) (drop 1 place)

pub whole_place : (place : List ℕ) → 0 < length place → place ≡ get_or place 0 0 ∷ tail_of place
whole_place place some =
    drop-cons place 0 0 some ∙ ap (λ p. get_or place 0 0 ∷ p) (sym (take_all (length place - 1) (drop 1 place) (omega (arith, length-drop 1 place))))

-- A law at a place below a part: the pool before, after the law was used in the part, and with the new term.
module _ (old mid : List Tree) (law : Law) (place below : List ℕ) (number id part new : ℕ) (whole : place ≡ number ∷ below)
    (there : id < length old) (part_is : Some (term_at old part) ≡ part_of (term_at old id) number) (kept : Keeps old mid)
    (given : IsGiven mid (Some new) (rewritten law below (term_at old part))) where
  pub fits_below : HasWidths (term_at old part) → HasWidthOf (term_at mid new) (part_of (term_at mid id) number)
  fits_below holds =
      let same = rewritten-width law below (term_at old part) (term_at mid new) (sym given.term) holds in
      subst (HasWidthOf (term_at mid new)) (part_is ∙ ap (λ t. part_of t number) (sym (kept_id old mid id there kept).1)) same

  pub given_above : (last : List Tree) (put : ℕ) → IsAdded mid last (with_part number (term_at mid new) (term_at mid id)) put →
      IsGiven last (Some put) (rewritten law place (term_at old id))
  given_above last put added =
      let at_put = added_at mid last (with_part number (term_at mid new) (term_at mid id)) put added in
      let over = λ (v : Tree). with_part number v (term_at old id) in
      record {
        there = at_put.0;
        term = ap (λ t. Some t) (at_put.1 ∙ ap (λ t. with_part number (term_at mid new) t) (kept_id old mid id there kept).1)
            ∙ ap (option_map over) (given.term ∙ ap (option_and_then (rewritten law below)) part_is)
            ∙ sym (at_part (gives law) number below (term_at old id)) ∙ ap (λ p. rewritten law p (term_at old id)) (sym whole);
      }

  pub kept_above : (last : List Tree) (put : ℕ) → IsAdded mid last (with_part number (term_at mid new) (term_at mid id)) put →
      Keeps old last
  kept_above last put added =
      kept_on old mid last kept (added_keeps mid last (with_part number (term_at mid new) (term_at mid id)) put added)
