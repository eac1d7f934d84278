use Rattle.std.proofs.Common.{◌≡◌, drop, map}
use Rattle.qc_names.specs.Seen.{none_seen}
use Rattle.qc_join.specs.Inner.KeptNames.{noted_all}
use Rattle.qc_join.proofs.seen.seen_in_params.Given as goal

-- the rest leaves what all leave
abbrev pub invariant-loop-param : goal.invariant-loop-param
invariant-loop-param l =
    noted_all l.seen (map (λ p. p.name) (drop l.param-index l.params))
    ≡ noted_all none_seen (map (λ p. p.name) l.params)
