use Rattle.std.proofs.Common.{◌≡◌, ◌++◌, List, map, drop, sym, ap, ◌∙◌}
use Rattle.std.specs.List.{flat_map}
use Rattle.qc_facts.specs.declared.faults.WidthFault.{WidthFault}
use Rattle.qc_facts.specs.declared.faults.WidthFault.TheVariants.{TwiceNamed}
use Rattle.qc_facts.specs.Faults.{reported, reported_of_both, token_of, rank_of}
use Rattle.qc_resolve.specs.Scopes.{Names}
use Rattle.qc_resolve.specs.Effects.{effect_faults, effect_events}
use Rattle.qc_resolve.specs.Declarations.{names_for, locals_of_operands}
use Rattle.qc_widths.specs.Inner.Elaboration.{all_signatures, names_of_operands}
use Rattle.qc_resolve.specs.KeptNames.{names_at}
use Rattle.qc_names.specs.Law.Reported.{reported-append}
use Rattle.qc_resolve.specs.Law.Earlier.{all_of_them}
use Rattle.qc_widths.proofs.bodies.instruction_fault.Goals as goal

pub returns : goal.returns
unfolding names_of_operands
returns c =
    let t = c.args.context.now in
    let faults : Names → List WidthFault = λ names. flat_map (effect_faults names) c.args.body.now in
    let second : Names → List WidthFault =
    λ names. map TwiceNamed (drop 1 (flat_map (effect_events names) c.args.body.now)) in
    let names : Names = names_at c.names_in-names.result in
    let is : names ≡ names_of_operands t c.args.operands.now =
    c.names_in-names.ensures.names
    ∙ ap (λ functions. names_for t.facts.now functions (locals_of_operands c.args.operands.now))
    (all_of_them (all_signatures t) t.signatures.now c.requires.signatures) in
    c.earlier.ensures
    ∙ ap (λ f. reported_of_both f c.twice_fault.result) c.body_fault.ensures
    ∙ ap (reported_of_both (reported (faults names))) c.twice_fault.ensures
    ∙ sym (reported-append token_of rank_of (faults names) (second names))
    ∙ ap (λ n. reported (faults n ++ second n)) is
