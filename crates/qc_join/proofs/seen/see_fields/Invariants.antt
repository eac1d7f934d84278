use Rattle.std.proofs.Common.{◌≡◌, drop, map}
use Rattle.qc_join.specs.Inner.KeptNames.{noted_all}
use Rattle.qc_join.proofs.seen.see_fields.Given as goal

-- the rest leaves what all leave
abbrev pub invariant-loop-field : goal.invariant-loop-field
invariant-loop-field l =
    noted_all l.seen (map (λ f. f.name) (drop l.field-index l.fields))
    ≡ noted_all l.fn.seen (map (λ f. f.name) l.fields)
