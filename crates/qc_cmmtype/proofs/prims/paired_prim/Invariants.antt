use Rattle.std.proofs.Common.{◌≡◌, map, drop}
use Rattle.qc_names.specs.Tables.{named}
use Rattle.qc_cmmtype.specs.declared.prims.Prim.{Prim}
use Rattle.qc_cmmtype.proofs.prims.paired_prim.Given as goal

-- the rest of the pairs tell it
abbrev pub invariant-loop-pair : goal.invariant-loop-pair
invariant-loop-pair l =
    named {A = Prim} (map (λ p. (p.0.now, p.1)) (drop l.pair-index l.pairs)) l.name
    ≡ named {A = Prim} (map (λ p. (p.0.now, p.1)) l.pairs) l.name
