use Rattle.std.proofs.Common.{◌≡◌, true, drop}
use Rattle.std.specs.List.{list_all}
use Rattle.qc_widths.specs.GivenFacts.{first_given}
use Rattle.qc_widths.specs.Inner.Given.{cell_of_item, has_small_cells}
use Rattle.qc_widths.proofs.given.cell_given.Given as goal

-- no item so far gives one
abbrev pub invariant-loop-item : goal.invariant-loop-item
invariant-loop-item l = record {
  found : first_given (cell_of_item l.cell l.facts) (drop l.item-index l.items)
      ≡ first_given (cell_of_item l.cell l.facts) l.items;
  small : list_all has_small_cells (drop l.item-index l.items) ≡ true;
}
