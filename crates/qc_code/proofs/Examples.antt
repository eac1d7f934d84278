-- Templates by hand that meet the conditions.
use Rattle.std.proofs.Common.{◌≡◌, ℕ, List, [], ◌∷◌, map, Some, refl, arith}
use Rattle.std.proofs.lemmas.List.Elements.{All-cons, All-nil}
use Rattle.qc_words.specs.Words as words
use Rattle.qc_terms.specs.Effects.{effect_has_input, writes_of_effect}
use Rattle.qc_descr.specs.CodingFaults as faults
use Rattle.qc_descr.specs.Valid as valid
use Rattle.qc_tiles.specs.declared.name.TileName.TheVariants as name
use Rattle.qc_tiles.specs.Sound.{facts_of, kinds_of_tile}
use Rattle.qc_code.specs.Example.{addition, adds, calling, equal_branch, going, machine, registers_after, sum, the_tile}
use Rattle.qc_code.specs.Formed.{IsFormed, IsLineFor}
use Rattle.qc_code.specs.IsTemplateFor.{IsTemplateFor}
use Rattle.qc_code.specs.Marks.{MarksNoMore, nothing_marked}
use Rattle.qc_code.specs.Reach.{BranchesLast, HasAlignedAddresses, TargetsReach}
use Rattle.qc_code.specs.Registers.{ReadsAsTile, ReadsSetScratches}
use Rattle.qc_code.specs.Setting.{AreOperandsOf, Setting, slot_value}
use Rattle.qc_code.specs.SpecialTiles.{CallsApart}
use Rattle.qc_code.proofs.OneLine.{HasTileOperands, one_line, one_line_accesses}
use Rattle.qc_code.proofs.Trees.{either, or_false, trees}

-- ---- the addition

three_operands : (row : ℕ) (e : Setting) (operands : List ℕ) → AreOperandsOf machine row (kinds_of_tile (facts_of machine) (the_tile name.Add)) operands →
    map (slot_value (the_tile name.Add) (record e { operands = operands })) sum.1 ≡ operands
three_operands row e [] are = absurd are
three_operands row e (a ∷ []) are = absurd are.1
three_operands row e (a ∷ b ∷ []) are = absurd are.1.1
three_operands row e (a ∷ b ∷ c ∷ []) are = refl
three_operands row e (a ∷ b ∷ c ∷ more ∷ others) are = absurd are.1.1.1

in_order : HasTileOperands machine (the_tile name.Add) sum
in_order row e are = three_operands row e e.operands are

formed : IsFormed machine (the_tile name.Add) addition
formed = record {
  some_line = omega arith;
  lines = All-cons (IsLineFor machine (the_tile name.Add) 0) sum [] (record { instruction = adds; is = refl; slots = ((refl, omega arith), ((refl, omega arith), ((refl, omega arith), tt))) }) (All-nil (IsLineFor machine (the_tile name.Add) 0));
}

marks : MarksNoMore machine (the_tile name.Add) addition
marks m = simp (trees, either) refl

reads : ReadsAsTile machine (the_tile name.Add) addition
unfolding valid.all_below
reads = simp trees refl

scratches : ReadsSetScratches machine addition
scratches = simp trees refl

pub whole : IsTemplateFor machine (Some going) (the_tile name.Add) addition
whole = record {
  formed = formed;
  holds = one_line machine (the_tile name.Add) addition sum refl refl in_order;
  registers = omega arith;
  targets = refl;
  writes = refl;
  reads = reads;
  sets = refl;
  scratches = scratches;
  accesses = one_line_accesses machine (the_tile name.Add) addition sum refl refl in_order;
  strays = marks nothing_marked;
  marks = marks;
  aligned = refl;
  link = refl;
  slots = refl;
  calls = refl;
  branches = refl;
}

-- ---- the constant

pub plain : registers_after 0x12345678 ≡ 0 ∷ 0 ∷ 0 ∷ 0 ∷ 0x12345678 ∷ 0x12345000 ∷ 0 ∷ 0 ∷ []
unfolding writes_of_effect effect_has_input words.word_of words.signed_of
plain = simp trees refl

pub carry : registers_after 0x12345FFF ≡ 0 ∷ 0 ∷ 0 ∷ 0 ∷ 0x12345FFF ∷ 0x12346000 ∷ 0 ∷ 0 ∷ []
unfolding writes_of_effect effect_has_input words.word_of words.signed_of
carry = simp trees refl

pub overflow : registers_after 0xFFFFF800 ≡ 0 ∷ 0 ∷ 0 ∷ 0 ∷ 0xFFFFF800 ∷ 0 ∷ 0 ∷ 0 ∷ []
unfolding writes_of_effect effect_has_input words.word_of words.signed_of
overflow = simp trees refl

-- ---- branches, jumps and calls

pub branch_marks : MarksNoMore machine (the_tile name.Breq) equal_branch
branch_marks m = simp (trees, either, or_false) refl

pub branch_last : BranchesLast machine (the_tile name.Breq) equal_branch
branch_last = refl

pub branch_reach : TargetsReach machine (Some going) (the_tile name.Breq) equal_branch
branch_reach = refl

pub call : CallsApart machine (the_tile name.Call) calling
call = simp trees refl

pub jump : HasAlignedAddresses machine going
unfolding faults.missing_from
jump = refl
