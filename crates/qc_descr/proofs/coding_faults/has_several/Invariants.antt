use Rattle.std.proofs.Common.{◌≡◌, drop}
use Rattle.std.specs.List.{list_any}
use Rattle.qc_descr.specs.CodingFaults.{is_several}
use Rattle.qc_descr.proofs.coding_faults.has_several.Given as goal

abbrev pub invariant-loop-claim : goal.invariant-loop-claim
invariant-loop-claim l = list_any is_several (drop l.claim-index l.claims) ≡ list_any is_several l.claims
