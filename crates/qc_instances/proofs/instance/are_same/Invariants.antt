use Rattle.std.proofs.Common.{◌≡◌, take}
use Rattle.qc_instances.proofs.instance.are_same.Given as goal

abbrev pub invariant-loop-index : goal.invariant-loop-index
invariant-loop-index l = take l.index l.one.given ≡ take l.index l.other.given
