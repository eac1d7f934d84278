use Rattle.std.proofs.Common.{◌≡◌, drop}
use Rattle.qc_terms.specs.Effects.{event_of}
use Rattle.qc_terms.specs.Inner.Pending.{writes_of_all}
use Rattle.qc_terms.proofs.pending.event.Given as goal

abbrev pub invariant-loop-write : goal.invariant-loop-write
invariant-loop-write l = event_of (writes_of_all (drop l.write-index l.writes)) ≡ event_of (writes_of_all l.writes)
