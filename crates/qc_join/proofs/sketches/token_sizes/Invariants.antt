use Rattle.std.proofs.Common.{◌≡◌, map, take}
use Rattle.qc_join.proofs.sketches.token_sizes.Given as goal

-- the sizes so far
abbrev pub invariant-loop-token : goal.invariant-loop-token
invariant-loop-token l = l.sizes ≡ map (λ t. t.bits) (take l.token-index l.tokens)
