use Rattle.std.proofs.Common.{◌≡◌, sum, take}
use Rattle.qc_descr.proofs.coding_bytes.coding_size.Given as goal

abbrev pub invariant-loop-token : goal.invariant-loop-token
invariant-loop-token l = l.bits ≡ sum (take l.token-index l.token-items)
