use Rattle.std.proofs.Common.{◌≡◌, drop}
use Rattle.std.specs.List.{flat_map}
use Rattle.qc_names.specs.Seen.{noted_all, none_seen}
use Rattle.qc_cmmtype.specs.declared.faults.ProgramFault.TheVariants.{TwiceNamed}
use Rattle.qc_cmmtype.specs.Faults.{token_of, rank_of}
use Rattle.qc_cmmtype.specs.Scopes as scopes
use Rattle.qc_cmmtype.proofs.procedures.labels_of.Given as goal

-- what is left leads to the whole
abbrev pub invariant-loop-item : goal.invariant-loop-item
invariant-loop-item l =
    noted_all token_of rank_of TwiceNamed l.seen (flat_map scopes.label_of (drop l.item-index l.body))
    ≡ noted_all token_of rank_of TwiceNamed none_seen (flat_map scopes.label_of l.body)
