use Rattle.std.proofs.Common.{◌≡◌, ◌<◌, ◌-◌, ◌^◌, drop, length}
use Rattle.qc_terms.specs.Memory.{in_order, number_of}
use Rattle.qc_terms.proofs.memory.join.Given as goal

abbrev pub invariant-loop-taken : goal.invariant-loop-taken
invariant-loop-taken l = record {
  value : l.word ≡ number_of (drop (length l.fn.bytes - l.taken) (in_order l.fn.order l.fn.bytes));
  bound : l.word < 256 ^ l.taken;
}
