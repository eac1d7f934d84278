use Rattle.std.proofs.Common.{◌≡◌, map, replicate, take}
use Rattle.qc_terms.proofs.cells.Cells.zeroed.Given as goal

abbrev pub invariant-loop-count : goal.invariant-loop-count
invariant-loop-count l = map (λ r. r.items) l.rows.items ≡ map (λ n. replicate n 0) (take l.count-index l.counts)
