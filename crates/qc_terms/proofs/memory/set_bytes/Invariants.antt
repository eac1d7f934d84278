use Rattle.std.proofs.Common.{◌≡◌, take}
use Rattle.qc_terms.specs.Memory.{with_bytes}
use Rattle.qc_terms.proofs.memory.set_bytes.Given as goal

abbrev pub invariant-loop-place : goal.invariant-loop-place
invariant-loop-place l = l.memory ≡ with_bytes l.initial.memory l.fn.address (take l.place l.fn.bytes)
