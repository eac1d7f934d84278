use Rattle.qc_nodes.proofs.operands.+missing_from.Given as goal

abbrev pub decreases-missing_from : goal.decreases-missing_from
decreases-missing_from l = l.count
