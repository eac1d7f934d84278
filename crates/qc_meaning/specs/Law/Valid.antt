-- Valid descriptions are such that code can be run on their machines.
use Rattle.std.proofs.Common.{◌≡◌, ◌≢◌, ◌∙◌, ◌<◌, ◌≤◌, ◌&&◌, ℕ, Bool, true, false, Option, None, Some, IfSome, slice_index, nat_eq, nat_le, refl, ap, subst, arith}
use Rattle.std.proofs.lemmas.Bool.{and_parts, eqb-true, leb-true}
use Rattle.std.proofs.lemmas.List.{length-map}
use Rattle.qc_terms.specs.State.{is_zero_cell}
use Rattle.qc_descr.specs.declared.description.Description.{Description}
use Rattle.qc_descr.specs.Description.{counts_of}
use Rattle.qc_descr.specs.Valid.{IsValid, IsWordCell}
use Rattle.qc_meaning.specs.Marked.{is_virtual}
use Rattle.qc_meaning.specs.Runs.{own_cells}
use Rattle.qc_meaning.specs.Law.Sound.{SuitsCode}

false_unless : (b : Bool) → (b ≡ true → ⊥) → b ≡ false
false_unless true never = absurd (never refl)
false_unless false never = refl

-- the zero cell is a cell of its space
zero_is_own : (d : Description) (z : Option (ℕ × ℕ)) → IfSome z (λ c. IsWordCell d c × (c ≢ d.frame) × (c ≢ d.link)) → (index : ℕ) →
    own_cells d ≤ index → is_zero_cell z d.allocatable index ≡ false
zero_is_own d None cells index behind = refl
zero_is_own d (Some z) cells index behind = false_unless (nat_eq z.0 d.allocatable && nat_eq z.1 index) (λ is.
    let parts = and_parts (nat_eq z.0 d.allocatable) (nat_eq z.1 index) is in
    let space : z.0 ≡ d.allocatable = eqb-true z.0 d.allocatable parts.0 in
    let place : z.1 ≡ index = eqb-true z.1 index parts.1 in
    let inside : z.1 < slice_index (counts_of d) d.allocatable = subst (λ s. z.1 < slice_index (counts_of d) s) space cells.0.1 in
    omega (arith, inside, place, behind))

zero_is_free : (d : Description) (z : Option (ℕ × ℕ)) → IfSome z (λ c. IsWordCell d c × (c ≢ d.frame) × (c ≢ d.link)) →
    is_zero_cell z d.frame.0 d.frame.1 ≡ false
zero_is_free d None cells = refl
zero_is_free d (Some z) cells = false_unless (nat_eq z.0 d.frame.0 && nat_eq z.1 d.frame.1) (λ is.
    let parts = and_parts (nat_eq z.0 d.frame.0) (nat_eq z.1 d.frame.1) is in
    cells.1 (ap (λ a. (a, z.1)) (eqb-true z.0 d.frame.0 parts.0) ∙ ap (λ b. (d.frame.0, b)) (eqb-true z.1 d.frame.1 parts.1)))

pub valid_suits : (d : Description) → IsValid d → SuitsCode d
valid_suits d valid =
    let l = valid.layout in
    record {
      space = omega (arith, l.allocatable.0, length-map d.spaces (λ s. s.cells));
      zero_own = zero_is_own d d.facts.zero l.«zero»;
      frame_free = zero_is_free d d.facts.zero l.«zero»;
      frame_own = false_unless (is_virtual d d.frame.0 d.frame.1) (λ is.
          let parts = and_parts (nat_eq d.frame.0 d.allocatable) (nat_le (own_cells d) d.frame.1) is in
          let inside : d.frame.1 < slice_index (counts_of d) d.allocatable = subst (λ s. d.frame.1 < slice_index (counts_of d) s) l.same_space.0 l.frame.1 in
          omega (arith, inside, leb-true (own_cells d) d.frame.1 parts.1));
      room = omega (arith, l.stack);
    }
