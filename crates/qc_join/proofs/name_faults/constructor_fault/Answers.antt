use Rattle.std.specs.Prelude.{◌≡◌, [], map}
use Rattle.std.proofs.Common.{ap, ◌∙◌}
use Rattle.qc_names.specs.Law.Seen.{seen_fault}
use Rattle.qc_join.specs.declared.faults.NameFault.TheVariants.{Twice}
use Rattle.qc_join.specs.Faults.{reported_of_both, reported, token_of, rank_of}
use Rattle.qc_join.specs.Names.{second_names}
use Rattle.qc_names.specs.Law.Reported.{reported_three}
use Rattle.qc_join.proofs.SameFaults.{operands_same}
use Rattle.qc_join.proofs.name_faults.constructor_fault.Goals as goal

pub returns : goal.returns
returns c =
    let twice : c.in_ok-operands.operands.fault ≡ reported (second_names [] (map (λ p. p.name) c.args.params.now)) =
    ap (λ s. s.fault) c.in_ok-operands.ensures ∙ seen_fault token_of rank_of Twice (map (λ p. p.name) c.args.params.now) in
    c.earlier.ensures
    ∙ ap (reported_of_both c.use_fault.result) c.earlier-inner.ensures
    ∙ reported_three token_of rank_of _ _ _ c.use_fault.result c.in_ok-operands.operands.fault c.pattern_fault.result
    c.use_fault.ensures twice
    (c.pattern_fault.ensures
    ∙ ap reported (operands_same _ _ c.args.params.now c.in_ok-operands.operands c.args.body.now c.in_ok-operands.ensures))
