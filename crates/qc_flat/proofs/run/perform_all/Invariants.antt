use Rattle.std.proofs.Common.{◌≡◌, drop, length}
use Rattle.qc_terms.specs.Effects.{after_writes}
use Rattle.qc_flat.specs.Inner.Pending.{writes_of_all}
use Rattle.qc_terms.specs.State.{IsState, context_of}
use Rattle.qc_flat.proofs.run.perform_all.Given as goal

abbrev pub invariant-loop-write : goal.invariant-loop-write
invariant-loop-write l = record {
  performed : after_writes (writes_of_all (drop l.write-index l.writes)) l.state ≡ after_writes (writes_of_all l.writes) l.initial.state;
  kept : IsState l.state;
  context : context_of l.state ≡ context_of l.initial.state;
  size : length l.state.memory ≡ length l.initial.state.memory;
}
