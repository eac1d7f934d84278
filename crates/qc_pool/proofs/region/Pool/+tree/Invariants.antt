use Rattle.qc_pool.proofs.region.Pool.+tree.Given as goal

abbrev pub decreases-tree : goal.decreases-tree
decreases-tree l = l.id
