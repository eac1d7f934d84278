use Rattle.std.proofs.Common.{◌≡◌, take, drop, ◌++◌}
use Rattle.qc_descr.specs.Encoding.{coded_bytes}
use Rattle.qc_encode.proofs.encoding.encode_coding.Given as goal

abbrev pub invariant-loop-place : goal.invariant-loop-place
invariant-loop-place l =
    l.into ≡ take l.place (coded_bytes l.fn.order l.fn.coding l.fn.operands) ++ drop l.place l.fn.into
