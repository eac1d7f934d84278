-- The layout of parts of which none is unfit.
use Rattle.std.proofs.Common.{◌≡◌, ◌≢◌, ℕ, suc, ◌/◌, ◌%◌, ◌≤◌, ◌⊎◌, List, [], ◌∷◌, sum, Bool, true, false, not, ◌&&◌, ◌||◌, nat_eq, Option, None, Some, unwrap_or, refl, sym, ◌∙◌, ap, subst, inl, inr}
use Rattle.std.specs.Prelude.{All, IfSome}
use Rattle.std.specs.List.{list_all}
use Rattle.std.proofs.lemmas.Bool.{and_from, and_parts, eq-eqb, eqb-true, false≢true, le-leb, leb-true, ltb-true, both_ways, not-true, or_cases}
use Rattle.std.proofs.lemmas.List.Sums.{AllPass-from_list_all}
use Rattle.std.proofs.lemmas.List.Elements.{All-weaker, All-nil, All-cons}
use Rattle.std.proofs.lemmas.Map.Views.{Contains-from_any}
use Rattle.qc_descr.specs.declared.description.Description.{Description}
use Rattle.qc_descr.specs.declared.description.Space.{Space}
use Rattle.qc_descr.specs.declared.parts.Operation.{Operation}
use Rattle.qc_descr.specs.declared.sketch.Parts.{Parts}
use Rattle.qc_descr.specs.declared.sketch.Sketch.{Sketch}
use Rattle.qc_descr.specs.CodingFaults.{Operands, operands_of, operations_fault}
use Rattle.qc_descr.specs.Description.{size_of}
use Rattle.qc_descr.specs.Layout.{fits, fits_align, fits_allocatable, fits_code, fits_data, fits_flags, fits_frame, fits_link, fits_memory, fits_slot_bits, fits_word, fits_zero, has_words, is_aligned, is_allocatable, is_given_with, is_left_out, is_other_than, is_same_cell, fits_if_given, unfit_part}
use Rattle.qc_descr.specs.Making.{description_of, first_coding, instructions_of}
use Rattle.qc_descr.specs.Parts.{AreParts, IsCellOf, width_or_32, word_of}
use Rattle.qc_descr.specs.Valid.{HasLayout, IsAllocatable, IsWordCell}
use Rattle.qc_descr.proofs.Faultless.{HasOne, neither, none_if, one_sketch}

-- what each part's rule says
pub record AllFit (p : Parts) : Type 0 where
  pub word : fits_word p ≡ true
  pub memory : fits_memory p ≡ true
  pub code : fits_code p ≡ true
  pub «data» : fits_data p ≡ true
  pub align : fits_align p ≡ true
  pub slot_bits : fits_slot_bits p ≡ true
  pub frame : fits_frame p ≡ true
  pub link : fits_link p ≡ true
  pub «zero» : fits_zero p ≡ true
  pub allocatable : fits_allocatable p ≡ true
  pub flags : fits_flags p ≡ true

-- no part is unfit, so each rule holds
pub all_fit : (p : Parts) → unfit_part p ≡ None → AllFit p
unfolding fits
all_fit p h =
    let w = none_if _ _ _ h in
    let m = none_if _ _ _ w.1 in
    let c = none_if _ _ _ m.1 in
    let e = none_if _ _ _ c.1 in
    let a = none_if _ _ _ e.1 in
    let s = none_if _ _ _ a.1 in
    let f = none_if _ _ _ s.1 in
    let l = none_if _ _ _ f.1 in
    let z = none_if _ _ _ l.1 in
    let b = none_if _ _ _ z.1 in
    let g = none_if _ _ _ b.1 in
    record {
      word = w.0;
      memory = m.0;
      code = c.0;
      «data» = e.0;
      align = a.0;
      slot_bits = s.0;
      frame = f.0;
      link = l.0;
      «zero» = z.0;
      allocatable = b.0;
      flags = g.0;
    }

-- a value that is given with a test passes it
passes : {A : Type 0} (test : A → Bool) (given : Option A) (default : A) → is_given_with test given ≡ true → test (unwrap_or given default) ≡ true
passes test None default h = absurd (false≢true h)
passes test (Some x) default h = h

-- it is there
is_there : {A : Type 0} (test : A → Bool) (value : Option A) (default : A) → is_given_with test value ≡ true → value ≡ Some (unwrap_or value default)
is_there test None default h = absurd (false≢true h)
is_there test (Some x) default h = refl

-- what holds of a value where it is given
holds : {A : Type 0} (P : A → Type 0) (value : Option A) (x : A) → value ≡ Some x → IfSome value P → P x
holds P value x is h = subst (λ v. IfSome v P) is h

-- a value that is given passes a test for given values
passes_given : {A : Type 0} (test : A → Bool) (value : Option A) (x : A) → value ≡ Some x → fits_if_given test value ≡ true → test x ≡ true
passes_given test value x is h = subst (λ v. fits_if_given test v ≡ true) is h

-- the word has 16 or 32 bits
word_laid : (width : Option ℕ) → is_given_with (λ w. nat_eq w 16 || nat_eq w 32) width ≡ true →
    (width_or_32 width ≡ 16) ⊎ (width_or_32 width ≡ 32)
word_laid None h = absurd (false≢true h)
word_laid (Some w) h =
    elim (or_cases _ _ h) [ inl less ↦ inl (eqb-true _ _ less) | inr more ↦ inr (eqb-true _ _ more) ]

-- equal cells are the same
same_cell : (a b : ℕ × ℕ) → a ≡ b → is_same_cell a b ≡ true
same_cell a b e = and_from _ _ (eq-eqb _ _ (ap (λ (c : ℕ × ℕ). c.0) e)) (eq-eqb _ _ (ap (λ (c : ℕ × ℕ). c.1) e))

-- cells that aren't tested as the same differ
other_cell : (a b : ℕ × ℕ) → not (is_same_cell a b) ≡ true → a ≢ b
other_cell a b h e = both_ways _ (not-true _ h) (same_cell a b e)

-- a cell that isn't tested as allocatable isn't
not_allocatable : (d : Description) (a : ℕ × ℕ × ℕ) (cell : ℕ × ℕ) → d.allocatable ≡ a.0 → d.first ≡ a.1 → d.last ≡ a.2 →
    not (is_allocatable a cell) ≡ true → IsAllocatable d cell → ⊥
not_allocatable d a cell space first last h is =
    both_ways _ (not-true _ h)
    (and_from _ _ (and_from _ _ (eq-eqb _ _ (is.0 ∙ space)) (le-leb _ _ (subst (λ n. n ≤ cell.1) first is.1)))
    (le-leb _ _ (subst (λ n. cell.1 ≤ n) last is.2)))

-- a cell of a space of words
word_cell : (p : Parts) (cell : ℕ × ℕ) → IsCellOf p.spaces cell → has_words p cell.0 ≡ true → IsWordCell (description_of p) cell
word_cell p cell is words = (is.0, is.1, eqb-true _ _ words)

-- the coding of an operation's only alternative is aligned
first_aligned : (align : ℕ) (o : Operands) (ss : List Sketch) → HasOne o ss → is_aligned align ss ≡ true →
    sum (first_coding ss).tokens / 8 % align ≡ 0
first_aligned align o ss has h =
    let here : is_aligned align (has.one ∷ []) ≡ true = subst (λ xs. is_aligned align xs ≡ true) has.only h in
    subst (λ xs. sum (first_coding xs).tokens / 8 % align ≡ 0) (sym has.only)
    (elim (or_cases _ _ here) [
      | inl misfit ↦ absurd (both_ways _ has.faultless.fit misfit)
      | inr whole ↦ eqb-true _ _ whole
    ])

-- instructions without a fault are aligned
aligned_each : (align word : ℕ) (spaces : List Space) (number : ℕ) (os : List Operation) (ss : List (List Sketch)) →
    operations_fault word spaces number os ss ≡ None → list_all (is_aligned align) ss ≡ true →
    All (λ i. size_of i % align ≡ 0) (instructions_of os ss)
aligned_each align word spaces number [] ss h each = All-nil _
aligned_each align word spaces number (o ∷ os) [] h each = All-nil _
aligned_each align word spaces number (o ∷ os) (s ∷ ss) h each =
    let faults = neither _ _ h in
    let aligned = and_parts _ _ each in
    let has : HasOne (operands_of word spaces o) s = one_sketch _ _ s faults.0 in
    All-cons (λ i. size_of i % align ≡ 0) _ (instructions_of os ss) (first_aligned align _ s has aligned.0)
    (aligned_each align word spaces (suc number) os ss faults.1 aligned.1)

-- a space of flags has cells of one bit
flag_width : (flags : Bool) (width : ℕ) → (not flags || nat_eq width 1) ≡ true → flags ≡ true → width ≡ 1
flag_width true width h e = eqb-true _ _ h
flag_width false width h e = absurd (false≢true e)

-- the space of a number has no flags
no_flags : (space : Option Space) (s : Space) → space ≡ Some s → not (is_given_with (λ x. x.flags) space) ≡ true → s.flags ≡ false
no_flags space s is h = not-true _ (subst (λ x. not (is_given_with (λ y. y.flags) x) ≡ true) is h)

-- a cell that is always zero is a word, and has no other use
zero_laid : (p : Parts) (frame link : ℕ × ℕ) → p.given.frame ≡ Some frame → p.given.link ≡ Some link → (cell : Option (ℕ × ℕ)) →
    IfSome cell (IsCellOf p.spaces) →
    fits_if_given (λ z. has_words p z.0 && is_other_than p.given.frame z && is_other_than p.given.link z) cell ≡ true →
    IfSome cell (λ z. IsWordCell (description_of p) z × (z ≢ frame) × (z ≢ link))
zero_laid p frame link is_frame is_link None cells h = tt
zero_laid p frame link is_frame is_link (Some z) cells h =
    let both = and_parts _ _ h in
    let words = and_parts _ _ both.0 in (
      word_cell p z cells words.0,
      other_cell z frame (passes_given _ _ frame is_frame words.1),
      other_cell z link (passes_given _ _ link is_link both.1),
    )

-- nor is it allocatable
zero_left_out : (d : Description) (a : ℕ × ℕ × ℕ) (cell : Option (ℕ × ℕ)) → d.allocatable ≡ a.0 → d.first ≡ a.1 → d.last ≡ a.2 →
    is_left_out a cell ≡ true → IfSome cell (λ z. IsAllocatable d z → ⊥)
zero_left_out d a None space first last h = tt
zero_left_out d a (Some z) space first last h = not_allocatable d a z space first last h

-- what a description of fit parts has
pub laid_out : (p : Parts) → AllFit p → AreParts p.name p.given p.spaces p.operations →
    operations_fault (word_of p.given) p.spaces 0 p.operations p.sketches ≡ None → HasLayout (description_of p)
laid_out p fit parts faultless =
    let d : Description = description_of p in
    let a : ℕ × ℕ × ℕ = unwrap_or p.given.allocatable (0, 0, 0) in
    let word = and_parts _ _ fit.word in
    let memory = and_parts _ _ (passes _ p.given.memory 0 fit.memory) in
    let sizes = and_parts _ _ memory.0 in
    let code = and_parts _ _ (passes _ p.given.code_end 0 fit.code) in
    let least = and_parts _ _ code.0 in
    let regions = and_parts _ _ (passes _ p.given.data_end 0 fit.data) in
    let align = and_parts _ _ (passes _ p.given.align 1 fit.align) in
    let slots = and_parts _ _ (passes _ p.given.slot_bits 4 fit.slot_bits) in
    let is_frame : p.given.frame ≡ Some d.frame = is_there _ p.given.frame (0, 0) fit.frame in
    let is_link : p.given.link ≡ Some d.link = is_there _ p.given.link (0, 0) fit.link in
    let is_range : p.given.allocatable ≡ Some a = is_there _ p.given.allocatable (0, 0, 0) fit.allocatable in
    let link = and_parts _ _ (passes _ p.given.link (0, 0) fit.link) in
    let out_zero = and_parts _ _ (passes _ p.given.allocatable (0, 0, 0) fit.allocatable) in
    let out_link = and_parts _ _ out_zero.0 in
    let out_frame = and_parts _ _ out_link.0 in
    let same_link = and_parts _ _ out_frame.0 in
    let same_frame = and_parts _ _ same_link.0 in
    let none_flags = and_parts _ _ same_frame.0 in
    let range = and_parts _ _ none_flags.0 in
    record {
      word = word_laid p.given.word word.0;
      memory_fits = leb-true _ _ sizes.0;
      memory_size = leb-true _ _ sizes.1;
      memory_words = eqb-true _ _ memory.1;
      code_least = leb-true _ _ least.0;
      code_most = leb-true _ _ least.1;
      «data» = leb-true _ _ (passes_given _ _ d.code_end (is_there _ p.given.code_end 0 fit.code) regions.0);
      stack = ltb-true _ _ (passes_given _ _ d.memory (is_there _ p.given.memory 0 fit.memory) regions.1);
      align = Contains-from_any eqb-true d.align (1 ∷ 2 ∷ 4 ∷ 8 ∷ 16 ∷ []) align.0;
      aligned = aligned_each d.align (word_of p.given) p.spaces 0 p.operations p.sketches faultless align.1;
      slot_least = leb-true _ _ slots.0;
      slot_most = leb-true _ _ slots.1;
      frame = word_cell p d.frame (holds _ _ d.frame is_frame parts.frame) (passes _ p.given.frame (0, 0) fit.frame);
      link = word_cell p d.link (holds _ _ d.link is_link parts.link) link.0;
      other_link = other_cell d.link d.frame (passes_given _ _ d.frame is_frame link.1);
      «zero» = zero_laid p d.frame d.link is_frame is_link p.given.zero parts.zero fit.zero;
      range = leb-true _ _ range.0;
      allocatable = word_cell p (a.0, a.2) (holds _ _ a is_range parts.last) range.1;
      same_space = (
        eqb-true _ _ (passes_given _ _ d.frame is_frame same_frame.1),
        eqb-true _ _ (passes_given _ _ d.link is_link same_link.1),
      );
      free_frame = not_allocatable d a d.frame refl refl refl (passes_given _ _ d.frame is_frame out_frame.1);
      free_link = not_allocatable d a d.link refl refl refl (passes_given _ _ d.link is_link out_link.1);
      free_zero = zero_left_out d a p.given.zero refl refl refl out_zero.1;
      no_flags = λ s is. no_flags _ s is none_flags.1;
      flags = All-weaker (λ s. (not s.flags || nat_eq s.width 1) ≡ true) (λ s. s.flags ≡ true → s.width ≡ 1)
          (λ s h. flag_width s.flags s.width h) p.spaces (AllPass-from_list_all _ p.spaces fit.flags);
    }
