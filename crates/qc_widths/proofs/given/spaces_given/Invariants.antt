use Rattle.std.proofs.Common.{◌≡◌, ◌++◌, true, drop, map}
use Rattle.std.specs.List.{list_all}
use Rattle.qc_widths.specs.Inner.Given.{is_small_space}
use Rattle.qc_widths.specs.Machine.{space_of}
use Rattle.qc_widths.proofs.given.spaces_given.Given as goal

-- the spaces so far, and the rest
abbrev pub invariant-loop-space : goal.invariant-loop-space
invariant-loop-space l = record {
  spaces : l.spaces ++ map space_of (drop l.space-index l.all) ≡ map space_of l.all;
  small : list_all is_small_space (drop l.space-index l.all) ≡ true;
}
