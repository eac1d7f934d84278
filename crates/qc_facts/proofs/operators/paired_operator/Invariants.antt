use Rattle.std.proofs.Common.{◌≡◌, drop, map, List, ℕ}
use Rattle.qc_words.specs.declared.operator.Op.{Op}
use Rattle.qc_facts.specs.Facts.{named}
use Rattle.qc_facts.proofs.operators.paired_operator.Given as goal

abbrev pub invariant-loop-pair : goal.invariant-loop-pair
invariant-loop-pair l =
    named {A = List ℕ × Op} (λ p. p.0) (map (λ p. (p.0.now, p.1)) (drop l.pair-index l.pairs)) l.name
    ≡ named {A = List ℕ × Op} (λ p. p.0) (map (λ p. (p.0.now, p.1)) l.pairs) l.name
