use Rattle.std.proofs.Common.{◌≡◌, ◌+◌, drop}
use Rattle.std.specs.List.{prefix_len}
use Rattle.qc_text.specs.Inner.Scanning.{is_in}
use Rattle.qc_text.proofs.run.run_length.Given as goal

-- the bytes so far are of the class
abbrev pub invariant-loop-byte : goal.invariant-loop-byte
invariant-loop-byte l =
    (l.count ≡ l.byte-index)
    × (l.count + prefix_len (is_in l.class) (drop l.byte-index l.bytes) ≡ prefix_len (is_in l.class) l.bytes)
