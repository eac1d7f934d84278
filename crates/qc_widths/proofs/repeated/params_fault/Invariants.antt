use Rattle.std.proofs.Common.{◌≡◌, drop, map}
use Rattle.qc_names.specs.Seen.{none_seen}
use Rattle.qc_widths.specs.Inner.Repeated.{noted_all}
use Rattle.qc_widths.proofs.repeated.params_fault.Given as goal

-- the rest leaves what all leave
abbrev pub invariant-loop-param : goal.invariant-loop-param
invariant-loop-param l =
    noted_all l.seen (map (λ p. p.name) (drop l.param-index l.params)) ≡ noted_all none_seen (map (λ p. p.name) l.params)
