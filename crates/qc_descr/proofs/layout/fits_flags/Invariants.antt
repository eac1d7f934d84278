use Rattle.std.proofs.Common.{◌≡◌, ◌||◌, not, nat_eq, drop}
use Rattle.std.specs.List.{list_all}
use Rattle.qc_descr.specs.Layout.{fits_flags}
use Rattle.qc_descr.proofs.layout.fits_flags.Given as goal

abbrev pub invariant-loop-space : goal.invariant-loop-space
invariant-loop-space l =
    list_all (λ s. not s.flags || nat_eq s.width 1) (drop l.space-index l.space-items) ≡ fits_flags l.fn.parts
