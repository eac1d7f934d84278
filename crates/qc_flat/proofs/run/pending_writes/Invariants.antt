use Rattle.std.proofs.Common.{◌≡◌, ◌≤◌, ◌++◌, All, drop, length}
use Rattle.std.specs.Option.{option_map}
use Rattle.arrayvec.specs.ArrayVec.{array_vec_len}
use Rattle.qc_terms.specs.State.{context_of}
use Rattle.qc_flat.specs.Flat.{writes_of_flat}
use Rattle.qc_flat.specs.Inner.Pending.{IsPendingWrite, writes_of_all}
use Rattle.qc_flat.proofs.run.pending_writes.Given as goal

abbrev pub invariant-loop-effect : goal.invariant-loop-effect
invariant-loop-effect l = record {
  room : array_vec_len l.writes ≤ l.effect-index;
  read : option_map (λ rest. writes_of_all l.writes.items ++ rest) (writes_of_flat (drop l.effect-index l.effects) l.state)
      ≡ writes_of_flat l.effects l.state;
  fits : All (IsPendingWrite (context_of l.state) (length l.state.memory)) l.writes.items;
}
