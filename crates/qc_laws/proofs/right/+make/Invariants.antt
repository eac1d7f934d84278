use Rattle.std.proofs.Common.{◌-◌, length}
use Rattle.qc_laws.proofs.right.+make.Given as goal

abbrev pub decreases-make : goal.decreases-make
decreases-make l = length l.list.now - l.at
