use Rattle.std.proofs.Common.{◌≡◌, drop}
use Rattle.std.specs.List.{flat_map}
use Rattle.qc_names.specs.Seen.{none_seen}
use Rattle.qc_join.specs.Inner.KeptNames.{names_of, noted_all}
use Rattle.qc_join.proofs.seen.seen_in_items.Given as goal

-- the rest leaves what all leave
abbrev pub invariant-loop-item : goal.invariant-loop-item
invariant-loop-item l =
    noted_all l.seen (flat_map (names_of l.kind) (drop l.item-index l.items))
    ≡ noted_all none_seen (flat_map (names_of l.kind) l.items)
