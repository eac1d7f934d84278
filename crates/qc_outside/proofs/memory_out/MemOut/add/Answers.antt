use Rattle.qc_outside.proofs.MemoryOut.{joined_more}
use Rattle.qc_outside.proofs.memory_out.MemOut.add.Goals as goal

pub invariant_of-self-in-Ok : goal.invariant_of-self-in-Ok
invariant_of-self-in-Ok c = record {
  joined = joined_more c.args.self.now.pieces.items _ c.in_ok-copy.copy _ _ _ c.args.self.now.joined c.in_ok-push.ensures.items c.in_ok-copy.ensures.items c.in-Ok.ensures.items;
}
