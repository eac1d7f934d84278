use Rattle.std.proofs.Common.{◌≡◌, [], map, take}
use Rattle.qc_resolve.specs.Declarations.{signatures_after}
use Rattle.qc_resolve.specs.KeptSignatures.{summary}
use Rattle.qc_resolve.proofs.signatures.declared_signatures.Given as goal

-- those of the items that the loop has passed
abbrev pub invariant-loop-item : goal.invariant-loop-item
invariant-loop-item l = l.found ≡ map summary (signatures_after l.facts [] (take l.item-index l.items))
