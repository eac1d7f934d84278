use Rattle.std.proofs.Common.{◌≡◌, ◌++◌, drop}
use Rattle.std.specs.List.{flat_map}
use Rattle.qc_facts.specs.Facts.{space_of_item}
use Rattle.qc_facts.specs.SpaceTables.{HasTable}
use Rattle.qc_facts.proofs.spaces.spaces_of.Given as goal

-- the spaces so far, and those of the rest
abbrev pub invariant-loop-item : goal.invariant-loop-item
invariant-loop-item l = record {
  spaces : l.spaces ++ flat_map space_of_item (drop l.item-index l.items) ≡ flat_map space_of_item l.items;
  table : HasTable l.spaces l.table;
}
