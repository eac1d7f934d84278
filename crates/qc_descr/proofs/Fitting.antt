-- Each part of the layout of a valid description fits.
use Rattle.std.proofs.Common.{◌≡◌, ◌≢◌, ℕ, ◌+◌, ◌≤◌, ◌⊎◌, List, [], ◌∷◌, Bool, true, false, not, ◌&&◌, ◌||◌, cond, nat_eq, nat_lt, nat_le, Option, None, Some, unwrap_or, refl, ◌∙◌, ap, inl, inr, arith}
use Rattle.std.specs.Prelude.{All, IfSome, is_some}
use Rattle.std.specs.List.{list_all}
use Rattle.std.proofs.lemmas.Bool.{and_from, and_parts, cases_Bool, eq-eqb, eqb-true, false≢true, le-leb, leb-true, lt-ltb, or_left, or_right}
use Rattle.std.proofs.lemmas.Cmp.{nat_eq_equiv}
use Rattle.std.proofs.lemmas.List.Elements.{All-head, All-tail}
use Rattle.std.proofs.lemmas.Map.Views.{list_any-from_Contains}
use Rattle.qc_descr.specs.declared.description.Space.{Space}
use Rattle.qc_descr.specs.declared.sketch.Parts.{Parts}
use Rattle.qc_descr.specs.Complete.{AreComplete}
use Rattle.qc_descr.specs.Layout.{fits, has_words, is_aligned, is_allocatable, is_given_with, is_other_than, is_same_cell, fits_if_given, unfit_part}
use Rattle.qc_descr.specs.Limits.{least_data}
use Rattle.qc_descr.specs.Making.{description_of}
use Rattle.qc_descr.specs.Parts.{width_or_32}
use Rattle.qc_descr.specs.Valid.{HasLayout, IsWordCell}
use Rattle.qc_descr.proofs.LaidOut.{AllFit}

-- a value that is there passes a test that it passes by its default too
with_test : {A : Type 0} (test : A → Bool) (o : Option A) (d : A) → is_some o ≡ true → test (unwrap_or o d) ≡ true → is_given_with test o ≡ true
with_test test None d some h = absurd (false≢true some)
with_test test (Some x) d some h = h

-- so does one that need not be there
if_test : {A : Type 0} (test : A → Bool) (o : Option A) (d : A) → test (unwrap_or o d) ≡ true → fits_if_given test o ≡ true
if_test test None d h = refl
if_test test (Some x) d h = h

word_fits : (o : Option ℕ) → is_some o ≡ true → (width_or_32 o ≡ 16) ⊎ (width_or_32 o ≡ 32) →
    is_given_with (λ w. nat_eq w 16 || nat_eq w 32) o ≡ true
word_fits None some h = absurd (false≢true some)
word_fits (Some w) some h = elim h [
  | inl less ↦ or_left (nat_eq w 16) (nat_eq w 32) (eq-eqb w 16 less)
  | inr more ↦ or_right (nat_eq w 16) (nat_eq w 32) (eq-eqb w 32 more)
]

same_from : (a b : ℕ × ℕ) → is_same_cell a b ≡ true → a ≡ b
same_from a b h =
    let parts = and_parts (nat_eq a.0 b.0) (nat_eq a.1 b.1) h in
    let first : ◌≡◌ {A = ℕ × ℕ} (a.0, a.1) (b.0, a.1) = ap (λ (n : ℕ). (n, a.1)) (eqb-true a.0 b.0 parts.0) in
    let second : ◌≡◌ {A = ℕ × ℕ} (b.0, a.1) (b.0, b.1) = ap (λ (n : ℕ). (b.0, n)) (eqb-true a.1 b.1 parts.1) in
    first ∙ second

other_from : (a b : ℕ × ℕ) → a ≢ b → not (is_same_cell a b) ≡ true
other_from a b h = elim (cases_Bool (is_same_cell a b)) [
  | inl same ↦ absurd (h (same_from a b same))
  | inr other ↦ ap not other
]

left_from : (a : ℕ × ℕ × ℕ) (cell : ℕ × ℕ) → ((cell.0 ≡ a.0) × (a.1 ≤ cell.1) × (cell.1 ≤ a.2) → ⊥) →
    not (is_allocatable a cell) ≡ true
left_from a cell h = elim (cases_Bool (is_allocatable a cell)) [
  | inl is ↦
      let outer = and_parts (nat_eq cell.0 a.0 && nat_le a.1 cell.1) (nat_le cell.1 a.2) is in
      let inner = and_parts (nat_eq cell.0 a.0) (nat_le a.1 cell.1) outer.0 in
      absurd (h (eqb-true _ _ inner.0, leb-true _ _ inner.1, leb-true _ _ outer.1))
  | inr other ↦ ap not other
]

zero_left : (a : ℕ × ℕ × ℕ) (zero : Option (ℕ × ℕ)) →
    IfSome zero (λ z. (z.0 ≡ a.0) × (a.1 ≤ z.1) × (z.1 ≤ a.2) → ⊥) → fits_if_given (λ cell. not (is_allocatable a cell)) zero ≡ true
zero_left a None h = refl
zero_left a (Some z) h = left_from a z h

zero_from : (p : Parts) (zero : Option (ℕ × ℕ)) →
    IfSome zero (λ z. IsWordCell (description_of p) z × (z ≢ unwrap_or p.given.frame (0, 0)) × (z ≢ unwrap_or p.given.link (0, 0))) →
    fits_if_given (λ z. has_words p z.0 && is_other_than p.given.frame z && is_other_than p.given.link z) zero ≡ true
zero_from p None h = refl
zero_from p (Some z) h =
    and_from (has_words p z.0 && is_other_than p.given.frame z) (is_other_than p.given.link z)
    (and_from (has_words p z.0) (is_other_than p.given.frame z) (eq-eqb _ _ h.0.2)
    (if_test (λ other. not (is_same_cell z other)) p.given.frame (0, 0) (other_from z _ h.1)))
    (if_test (λ other. not (is_same_cell z other)) p.given.link (0, 0) (other_from z _ h.2))

flags_off : (space : Option Space) → ((s : Space) → space ≡ Some s → s.flags ≡ false) → not (is_given_with (λ s. s.flags) space) ≡ true
flags_off None h = refl
flags_off (Some s) h = ap not (h s refl)

one_bit : (flags : Bool) (width : ℕ) → (flags ≡ true → width ≡ 1) → (not flags || nat_eq width 1) ≡ true
one_bit true width h = eq-eqb width 1 (h refl)
one_bit false width h = refl

all_flags : (spaces : List Space) → All (λ s. s.flags ≡ true → s.width ≡ 1) spaces →
    list_all (λ s. not s.flags || nat_eq s.width 1) spaces ≡ true
all_flags [] h = refl
all_flags (s ∷ spaces) h =
    and_from (not s.flags || nat_eq s.width 1) (list_all (λ x. not x.flags || nat_eq x.width 1) spaces)
    (one_bit s.flags s.width (All-head (λ x. x.flags ≡ true → x.width ≡ 1) s spaces h))
    (all_flags spaces (All-tail (λ x. x.flags ≡ true → x.width ≡ 1) s spaces h))

pub laid_fit : (p : Parts) → AreComplete p → HasLayout (description_of p) →
    list_all (is_aligned (unwrap_or p.given.align 1)) p.sketches ≡ true → AllFit p
laid_fit p c h aligned =
    let code : ℕ = unwrap_or p.given.code_end 0 in
    let end : ℕ = unwrap_or p.given.data_end 0 in
    let a : ℕ × ℕ × ℕ = unwrap_or p.given.allocatable (0, 0, 0) in
    record {
      word = and_from _ _ (word_fits p.given.word c.word h.word) c.order;
      memory = with_test _ p.given.memory 0 c.memory
          (and_from _ _ (and_from _ _ (le-leb _ _ h.memory_fits) (le-leb _ _ h.memory_size)) (eq-eqb _ _ h.memory_words));
      code = with_test _ p.given.code_end 0 c.code_end
          (and_from _ _ (and_from _ _ (le-leb _ _ h.code_least) (le-leb _ _ h.code_most))
          (if_test (nat_lt code) p.given.data_end 0 (lt-ltb _ _ (omega (arith, h.«data»)))));
      «data» = with_test _ p.given.data_end 0 c.data_end
          (and_from _ _ (if_test (λ n. nat_le (n + least_data) end) p.given.code_end 0 (le-leb _ _ h.«data»))
          (if_test (nat_lt end) p.given.memory 0 (lt-ltb _ _ h.stack)));
      align = with_test _ p.given.align 1 c.align
          (and_from _ _ (list_any-from_Contains nat_eq_equiv (unwrap_or p.given.align 1) (1 ∷ 2 ∷ 4 ∷ 8 ∷ 16 ∷ []) h.align) aligned);
      slot_bits = with_test _ p.given.slot_bits 4 c.slot_bits (and_from _ _ (le-leb _ _ h.slot_least) (le-leb _ _ h.slot_most));
      frame = with_test (λ cell. has_words p cell.0) p.given.frame (0, 0) c.frame (eq-eqb _ _ h.frame.2);
      link = with_test (λ cell. has_words p cell.0 && is_other_than p.given.frame cell) p.given.link (0, 0) c.link
          (and_from _ _ (eq-eqb _ _ h.link.2)
          (if_test (λ other. not (is_same_cell (unwrap_or p.given.link (0, 0)) other)) p.given.frame (0, 0) (other_from _ _ h.other_link)));
      «zero» = zero_from p p.given.«zero» h.«zero»;
      allocatable = with_test _ p.given.allocatable (0, 0, 0) c.allocatable
          (and_from _ _ (and_from _ _ (and_from _ _ (and_from _ _ (and_from _ _ (and_from _ _ (and_from _ _
          (le-leb _ _ h.range) (eq-eqb _ _ h.allocatable.2)) (flags_off _ h.no_flags))
          (if_test (λ cell. nat_eq cell.0 a.0) p.given.frame (0, 0) (eq-eqb _ _ h.same_space.0)))
          (if_test (λ cell. nat_eq cell.0 a.0) p.given.link (0, 0) (eq-eqb _ _ h.same_space.1)))
          (if_test (λ cell. not (is_allocatable a cell)) p.given.frame (0, 0) (left_from a _ h.free_frame)))
          (if_test (λ cell. not (is_allocatable a cell)) p.given.link (0, 0) (left_from a _ h.free_link)))
          (zero_left a p.given.«zero» h.free_zero));
      flags = all_flags p.spaces h.flags;
    }

none_when : {A : Type 0} (test : Bool) (more : Option A) (found : A) → test ≡ true → more ≡ None → cond test more (Some found) ≡ None
none_when true more found here none = none
none_when false more found here none = absurd (false≢true here)

pub none_unfit : (p : Parts) → AllFit p → unfit_part p ≡ None
unfolding fits
none_unfit p f =
    none_when _ _ _ f.word (none_when _ _ _ f.memory (none_when _ _ _ f.code (none_when _ _ _ f.«data» (none_when _ _ _ f.align
    (none_when _ _ _ f.slot_bits (none_when _ _ _ f.frame (none_when _ _ _ f.link (none_when _ _ _ f.«zero»
    (none_when _ _ _ f.allocatable (none_when _ _ _ f.flags refl))))))))))
