use Rattle.std.proofs.Common.{◌≡◌, drop}
use Rattle.std.specs.List.{flat_map}
use Rattle.qc_names.specs.Seen.{none_seen}
use Rattle.qc_widths.specs.Inner.Repeated.{single_name, noted_all}
use Rattle.qc_widths.proofs.repeated.second_single.Given as goal

-- the rest leaves what all leave
abbrev pub invariant-loop-item : goal.invariant-loop-item
invariant-loop-item l =
    noted_all l.seen (flat_map single_name (drop l.item-index l.items)) ≡ noted_all none_seen (flat_map single_name l.items)
