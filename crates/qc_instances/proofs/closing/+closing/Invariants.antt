use Rattle.std.proofs.Common.{◌≡◌, length, map, take}
use Rattle.qc_bodies.specs.Plains.{plain_of}
use Rattle.qc_bodies.specs.Trees.{core_of}
use Rattle.qc_instances.specs.Inner.Closing.{SamePlains}
use Rattle.qc_instances.proofs.closing.+closing.Given as goal

abbrev pub invariant-plains_in-loop-tree : goal.invariant-plains_in-loop-tree
invariant-plains_in-loop-tree l = record {
  plains : length l.work.wanted ≡ 0 → SamePlains l.place (map core_of (take l.tree-index l.trees)) (map plain_of l.plains);
  before : length l.work.wanted ≡ 0 → length l.initial.work.wanted ≡ 0;
}
