use Rattle.std.proofs.Common.{◌≡◌, drop}
use Rattle.qc_descr.specs.Coding.{bytes_differ, memory_bytes}
use Rattle.qc_descr.proofs.overlaps.codings_differ.Given as goal

abbrev pub invariant-loop-place : goal.invariant-loop-place
invariant-loop-place l =
    bytes_differ (drop l.place (memory_bytes l.order l.a)) (drop l.place (memory_bytes l.order l.b))
    ≡ bytes_differ (memory_bytes l.order l.a) (memory_bytes l.order l.b)
