use Rattle.std.proofs.Common.{All, ◌≤◌, ◌⊎◌, inr, ◌≡◌, ◌≢◌, ◌∙◌, ◌||◌, ◌&&◌, not, if◌then◌else◌, ℕ, [], ◌∷◌, Bool, true, false, Some, refl, ap, sym, subst, arith}
use Rattle.qc_terms.specs.declared.term.Dest.TheVariants as dest
use Rattle.std.proofs.lemmas.List.Elements.{All-cons, All-nil}
use Rattle.std.proofs.lemmas.List.Kept.{AllPairs-cons}
use Rattle.qc_words.specs.declared.operator.Op.TheVariants.{Add, Slice, Sub}
use Rattle.qc_terms.specs.declared.term.Place.TheVariants.{Cell}
use Rattle.qc_terms.specs.Effects.{guard_of}
use Rattle.qc_terms.specs.Tree.{Tree, Number, Unary, Binary, Register, Immediate, AddressAfter, tree_of}
use Rattle.qc_tiles.specs.Terms.{term_of}
use Rattle.qc_tiles.specs.Tiles.{gives}
use Rattle.qc_tiles.specs.Law.Terms.{tree_of-term_of}
use Rattle.qc_meaning.specs.Examples.{link_marked, link_word, one_line, small, some_reading, some_rules, adds_two, narrow, sum_of_two, to_nowhere, under_mark}
use Rattle.qc_meaning.specs.Code.{Does}
use Rattle.qc_meaning.specs.Fine.{IsFineEffect, IsFineTerm, counts, guard_mark, is_false, marks_at}
use Rattle.qc_meaning.specs.Liveness.{Reads, StandsAt, is_even, line_reads, line_writes, names_register, reads}
use Rattle.qc_meaning.specs.Marked.{seen_marks}
use Rattle.qc_meaning.specs.Roomy.{AreApart, IsRoomy}
use Rattle.qc_meaning.specs.Marks.{Address, Clean, Mark, Stray, is_clean, is_stray, joined, mark_of, worth}
use Rattle.qc_meaning.proofs.Room.{two_are_roomy}
use Rattle.qc_meaning.proofs.laws.examples_of_code.Goals as goal

address_is_not_clean : Address ≡ Clean → ⊥
address_is_not_clean e = cc

stray_is_not_clean : Stray ≡ Clean → ⊥
stray_is_not_clean e = cc

clash : true ≡ false → ⊥
clash e = cc

-- what is put out has no mark
out_is_clean : (t : Tree) → IsFineEffect some_rules some_reading (gives dest.Out t) → mark_of some_reading t ≡ Clean
out_is_clean t fine = subst (λ u. mark_of some_reading u ≡ Clean) (tree_of-term_of t) (fine.to refl)

-- what sets the program counter isn't stray
counter_is_kept : (t : Tree) → IsFineEffect some_rules some_reading (gives dest.Pc t) → is_stray (mark_of some_reading t) ≡ false
counter_is_kept t fine = subst (λ u. is_stray (mark_of some_reading u) ≡ false) (tree_of-term_of t) (fine.to refl).1

-- a store to this address isn't allowed
not_there : IsFineEffect some_rules some_reading (gives (dest.Mem 16 (term_of (Number 50 16))) (Number 0 16)) → ⊥
not_there fine =
    let at = (fine.to refl).address in
    let there : Some 50 ≡ Some at.address = sym (ap (worth some_reading) (tree_of-term_of (Number 50 16))) ∙ at.is in
    let place : at.address ≡ 50 = cc in
    clash (sym at.allowed ∙ ap (λ a. some_rules.allowed a 2) place)

-- the marks of the guard and of the value
guard_is : guard_mark some_reading under_mark.guard ≡ Address
guard_is = ap (mark_of some_reading) (tree_of-term_of (Unary (Slice 2 1) link_word))

value_is : mark_of some_reading (tree_of under_mark.value) ≡ Clean
value_is = ap (mark_of some_reading) (tree_of-term_of (Number 1 16))

written : (guard value : Mark) (counted : Bool) → guard ≡ Address → value ≡ Clean → counted ≡ true →
    (if counted then marks_at some_reading guard (joined guard value) (dest.Reg (Cell 0 7)) (seen_marks small 0 0 link_marked)
    else seen_marks small 0 0 link_marked).cell 0 7 ≡ Address
written guard value counted is_address is_clean is_counted =
    ap (λ c. (if c then marks_at some_reading guard (joined guard value) (dest.Reg (Cell 0 7)) (seen_marks small 0 0 link_marked)
    else seen_marks small 0 0 link_marked).cell 0 7) is_counted
    ∙ ap (λ g. (marks_at some_reading g (joined g value) (dest.Reg (Cell 0 7)) (seen_marks small 0 0 link_marked)).cell 0 7) is_address
    ∙ ap (λ v. (marks_at some_reading Address (joined Address v) (dest.Reg (Cell 0 7)) (seen_marks small 0 0 link_marked)).cell 0 7) is_clean

under_mark_counts : counts some_reading under_mark ≡ true
under_mark_counts =
    ap (λ g. not (is_clean g && is_false (guard_of under_mark.guard some_reading.operands some_reading.next some_reading.state))) guard_is

-- the line reads its second register
reads_second : line_reads small 2 (Does adds_two) ≡ true
reads_second = ap (λ t. reads small 2 [] t || false) (tree_of-term_of sum_of_two)

names_both : (number : ℕ) → reads narrow number [] sum_of_two ≡ true → names_register narrow number (Does adds_two) ≡ true
names_both number is =
    ap (λ b. (b || false) || line_writes narrow number (Does adds_two)) (ap (reads narrow number []) (tree_of-term_of sum_of_two) ∙ is)

abbrev IsNamed : ℕ → Type 0
IsNamed r =
    ((is_even r ≡ false) × StandsAt narrow (one_line adds_two) 0 r 0) ⊎ ((is_even r ≡ true) × (names_register narrow r (Does adds_two) ≡ true))

too_many : IsRoomy narrow (one_line adds_two) 64 → ⊥
too_many roomy =
    let named : All IsNamed (0 ∷ 2 ∷ []) =
    All-cons IsNamed 0 (2 ∷ []) (inr (refl, names_both 0 refl)) (All-cons IsNamed 2 [] (inr (refl, names_both 2 refl)) (All-nil IsNamed)) in
    let apart : AreApart (0 ∷ 2 ∷ []) =
    AllPairs-cons (λ a b. a ≢ b) 0 (2 ∷ []) (All-cons (λ b. 0 ≢ b) 2 [] (omega arith) (All-nil (λ b. 0 ≢ b)))
    (AllPairs-cons (λ a b. a ≢ b) 2 [] (All-nil (λ b. 2 ≢ b)) (λ i j d less short. absurd (omega (arith, less, short)))) in
    let few : 2 ≤ 1 = roomy.cells 0 (record { procedure = 0; first = true; line = Does adds_two }) (0 ∷ 2 ∷ []) refl apart named in
    omega (arith, few)

pub returns : goal.returns
returns c = record {
  label = refl;
  procedure = refl;
  first_label = refl;
  later_procedure = refl;
  no_line = refl;
  turns = refl;
  end = refl;
  call = refl;
  called = refl;
  return = refl;
  returned = refl;
  link_of_call = refl;
  return_by_link = record {
    guard = tt;
    value = λ counted. subst (IsFineTerm some_rules some_reading) (sym (tree_of-term_of link_word)) tt;
    to = λ counted. (refl, subst (λ u. is_stray (mark_of some_reading u) ≡ false) (sym (tree_of-term_of link_word)) refl);
  };
  link_mark = refl;
  target_mark = refl;
  cell_mark = refl;
  after_mark = refl;
  guard_mark = written (guard_mark some_reading under_mark.guard) (mark_of some_reading (tree_of under_mark.value)) (counts some_reading under_mark) guard_is value_is under_mark_counts;
  link_out = λ fine. address_is_not_clean (out_is_clean link_word fine);
  target_out = λ fine. address_is_not_clean (out_is_clean (Immediate 0 16) fine);
  after_out = λ fine. stray_is_not_clean (out_is_clean (Binary Sub (AddressAfter 16) (AddressAfter 16)) fine);
  return_by_cell = λ fine. clash (counter_is_kept (Binary Add link_word (Register (Cell 0 5) 16)) fine);
  unnamed_slot = not_there;
  first_frame = refl;
  second_frame = refl;
  raised_frame = refl;
  raised_twice = λ none. none;
  live_at_start = Reads 0 (record { procedure = 0; first = true; line = Does adds_two }) refl refl reads_second;
  one_cell = refl;
  two_cells = refl;
  room_for_two = two_are_roomy;
  no_room_in_one = too_many;
  no_target = λ has. let known = has 0 99 (record { procedure = 0; first = true; line = Does to_nowhere }) refl refl in omega (arith, known);
  label_load = refl;
  add_load = λ registers. refl;
  branch_load = λ registers. refl;
}
