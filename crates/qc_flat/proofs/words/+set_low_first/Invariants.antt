use Rattle.qc_flat.proofs.words.+set_low_first.Given as goal

abbrev pub decreases-set_low_first : goal.decreases-set_low_first
decreases-set_low_first l = l.count
