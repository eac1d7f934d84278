-- The facts that items give, by kinds, and numbers of cells that fit.
use Rattle.std.specs.Prelude.{ℕ, ◌^◌, Bool, true, ◌&&◌, nat_lt, Option}
use Rattle.qc_widths.specs.GivenFacts.{align_given, slot_bits_given, memory_given, code_given, data_given, zero_given, frame_given, link_given}
use Rattle.qc_lrtl.specs.declared.syntax.Item.{Item}
use Rattle.qc_lrtl.specs.declared.syntax.Item.TheVariants as fact
use Rattle.qc_facts.specs.declared.facts.SpaceFacts.{SpaceFacts}
use Rattle.qc_widths.specs.declared.given.CellItem.{CellItem}
use Rattle.qc_widths.specs.declared.given.CellItem.TheVariants.{Zero, Frame, Link}
use Rattle.qc_widths.specs.declared.given.Size.{Size}
use Rattle.qc_widths.specs.declared.given.Size.TheVariants.{Align, SlotBits, Memory, Code, Data}
use Rattle.qc_facts.specs.Facts.{Facts}

-- the size of a kind that an item gives
abbrev pub size_of_item : Size → Item → Option ℕ
size_of_item Align = align_given
size_of_item SlotBits = slot_bits_given
size_of_item Memory = memory_given
size_of_item Code = code_given
size_of_item Data = data_given

-- the cell of a kind that an item gives
abbrev pub cell_of_item : CellItem → Facts → Item → Option (ℕ × ℕ)
cell_of_item Zero = zero_given
cell_of_item Frame = frame_given
cell_of_item Link = link_given

-- the numbers of the cells that an item gives fit
abbrev pub has_small_cells : Item → Bool
has_small_cells (fact.Zero token space cell) = nat_lt cell.value (2 ^ 32)
has_small_cells (fact.Frame token space cell) = nat_lt cell.value (2 ^ 32)
has_small_cells (fact.Link token space cell) = nat_lt cell.value (2 ^ 32)
has_small_cells (fact.Allocatable token space first last) = nat_lt first.value (2 ^ 32) && nat_lt last.value (2 ^ 32)
has_small_cells _ = true

abbrev pub is_small_space : SpaceFacts → Bool
is_small_space s = nat_lt s.cells (2 ^ 32)
