use Rattle.std.proofs.Common.{drop}
use Rattle.std.specs.List.{slice_get}
use Rattle.qc_descr.specs.Coding.{memory_bytes}
use Rattle.qc_descr.specs.Law.Places.{StandsAt}
use Rattle.qc_descr.proofs.coding_bytes.memory_byte.Given as goal

abbrev pub invariant-loop-token : goal.invariant-loop-token
invariant-loop-token l =
    StandsAt l.order (drop l.token-index l.token-items) l.bits l.place (slice_get (memory_bytes l.fn.order l.fn.coding) l.fn.place)
