use Rattle.std.proofs.Common.{◌≡◌, ◌≤◌, ◌-◌, ◌++◌}
use Rattle.arrayvec.specs.ArrayVec.{array_vec_len}
use Rattle.qc_terms.specs.Memory.{digits_of}
use Rattle.qc_terms.proofs.memory.digits.Given as goal

abbrev pub invariant-loop : goal.invariant-loop
invariant-loop l = record {
  room : array_vec_len l.bytes ≤ l.counter;
  rest : l.bytes.items ++ digits_of (l.fn.count - l.counter) l.rest ≡ digits_of l.fn.count l.fn.word;
}
