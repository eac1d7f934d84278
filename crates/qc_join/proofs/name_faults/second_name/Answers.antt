use Rattle.std.specs.List.{flat_map}
use Rattle.std.proofs.Common.{ap, ◌∙◌}
use Rattle.qc_names.specs.Law.Seen.{seen_fault}
use Rattle.qc_join.specs.Faults.{token_of, rank_of}
use Rattle.qc_join.specs.declared.faults.NameFault.TheVariants.{Twice}
use Rattle.qc_join.specs.Inner.KeptNames.{names_of}
use Rattle.qc_join.proofs.name_faults.second_name.Goals as goal

pub returns : goal.returns
returns c =
    ap (λ s. s.fault) c.in_ok-seen.ensures ∙ seen_fault token_of rank_of Twice (flat_map (names_of c.args.kind) c.args.items.now)
