use Rattle.std.proofs.Common.{take, map}
use Rattle.qc_names.specs.Tables.{HasNames}
use Rattle.qc_facts.proofs.operators.names_of.Given as goal

-- the names of the pairs so far
abbrev pub invariant-loop-pair : goal.invariant-loop-pair
invariant-loop-pair l = HasNames l.names (map (λ p. p.0.now) (take l.pair-index l.pairs))
