use Rattle.std.proofs.Common.{◌≡◌, drop}
use Rattle.qc_descr.specs.Coding.{memory_bytes}
use Rattle.qc_decode.specs.Inner.OperandsOfBytes.{operand_in_bytes}
use Rattle.qc_decode.proofs.operands.operand_in_bytes.Given as goal

abbrev pub invariant-loop-place : goal.invariant-loop-place
invariant-loop-place l =
    operand_in_bytes l.operand l.value (drop l.place (memory_bytes l.order l.coding)) (drop l.place l.bytes)
    ≡ operand_in_bytes l.operand 0 (memory_bytes l.order l.coding) l.bytes
