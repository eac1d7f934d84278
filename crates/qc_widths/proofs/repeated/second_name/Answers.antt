use Rattle.std.specs.Prelude.{◌≡◌, []}
use Rattle.std.specs.List.{flat_map}
use Rattle.std.proofs.Common.{ap, sym, ◌∙◌, arith, drop}
use Rattle.std.proofs.lemmas.Grind.{common_steps}
use Rattle.qc_widths.specs.TextFaults.{repeated_after}
use Rattle.qc_names.specs.Law.Seen.{noted_fault, noted_more}
use Rattle.qc_facts.specs.declared.faults.WidthFault.TheVariants.{TwiceNamed}
use Rattle.qc_facts.specs.Faults.{token_of, rank_of, reported, reported_of_both}
use Rattle.qc_widths.specs.Inner.Repeated.{known_names, names_of, noted_all}
use Rattle.qc_widths.proofs.repeated.second_name.Goals as goal

pub returns : goal.returns
returns c =
    let start = known_names c.args.kind in
    let names = names_of c.args.kind in
    let items = c.args.items.now in
    let rest : drop c.loop-item.item-index items ≡ [] = grind (arith, common_steps) in
    ap (λ xs. (noted_all c.loop-item.seen (flat_map names xs)).fault) (sym rest)
    ∙ ap (λ s. s.fault) c.loop-item.invariant
    ∙ noted_fault token_of rank_of TwiceNamed c.in_ok-seen.seen start (flat_map names items) c.in_ok-seen.ensures.names
    ∙ ap (λ f. reported_of_both f (reported (repeated_after start (flat_map names items)))) c.in_ok-seen.ensures.fault

pub loop-item-preserved : goal.loop-item-preserved
loop-item-preserved c =
    noted_more token_of rank_of TwiceNamed (names_of c.args.kind) c.loop-item.seen c.see_item.new.seen _ c.args.items.now c.loop-item.item-index
    c.item-item.result c.loop-item-test.true c.item-item.is c.in_ok-see_item.ensures c.loop-item.invariant
