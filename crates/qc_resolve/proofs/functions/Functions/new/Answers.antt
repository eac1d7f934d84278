use Rattle.std.proofs.Common.{arith}
use Rattle.qc_resolve.proofs.Numbered.{table-of-first}
use Rattle.qc_resolve.proofs.functions.Functions.new.Goals as goal

pub returns : goal.returns
returns c = table-of-first c.args.items.now _ c.loop-place.place (omega arith) c.loop-place.invariant
