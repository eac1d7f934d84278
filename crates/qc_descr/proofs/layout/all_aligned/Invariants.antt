use Rattle.std.proofs.Common.{◌≡◌, drop}
use Rattle.std.specs.List.{list_all}
use Rattle.qc_descr.specs.Layout.{is_aligned}
use Rattle.qc_descr.proofs.layout.all_aligned.Given as goal

abbrev pub invariant-loop-alternatives : goal.invariant-loop-alternatives
invariant-loop-alternatives l =
    list_all (is_aligned l.align) (drop l.alternatives-index l.sketches) ≡ list_all (is_aligned l.align) l.sketches
