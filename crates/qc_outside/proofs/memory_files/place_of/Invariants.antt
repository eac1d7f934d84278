use Rattle.std.proofs.Common.{string_bytes}
use Rattle.qc_outside.specs.MemoryFiles.{NoneBefore}
use Rattle.qc_outside.proofs.memory_files.place_of.Given as goal

abbrev pub invariant-loop-place : goal.invariant-loop-place
invariant-loop-place l = NoneBefore l.files.items (string_bytes l.name) l.place
