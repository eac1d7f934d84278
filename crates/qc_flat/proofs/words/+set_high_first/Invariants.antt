use Rattle.qc_flat.proofs.words.+set_high_first.Given as goal

abbrev pub decreases-set_high_first : goal.decreases-set_high_first
decreases-set_high_first l = l.count
