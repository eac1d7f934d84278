use Rattle.std.proofs.Common.{◌≡◌, ◌≤◌, ◌*◌, sum, take}
use Rattle.qc_descr.proofs.layout.bits_of_tokens.Given as goal

abbrev pub invariant-loop-token : goal.invariant-loop-token
invariant-loop-token l = record {
  sum : l.bits ≡ sum (take l.token-index l.tokens);
  bound : l.bits ≤ 255 * l.token-index;
}
