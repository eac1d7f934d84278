use Rattle.std.proofs.Common.{◌≡◌, ◌<◌, ℕ, get_or}
use Rattle.qc_descr.specs.Encoding.{coded_bytes}
use Rattle.qc_decode.proofs.bytes.has_bytes.Given as goal

abbrev pub invariant-loop-place : goal.invariant-loop-place
invariant-loop-place l =
    (k : ℕ) → k < l.place → get_or l.bytes k 0 ≡ get_or (coded_bytes l.order l.coding l.operands) k 0
