use Rattle.std.specs.Prelude.{◌≡◌, []}
use Rattle.std.specs.List.{flat_map}
use Rattle.std.proofs.Common.{ap, sym, ◌∙◌, arith, drop}
use Rattle.std.proofs.lemmas.Grind.{common_steps}
use Rattle.qc_widths.specs.TextFaults.{repeated_after, single_item}
use Rattle.qc_names.specs.Law.Seen.{noted_more, seen_fault}
use Rattle.qc_facts.specs.declared.faults.WidthFault.TheVariants.{TwiceNamed}
use Rattle.qc_facts.specs.Faults.{token_of, rank_of, reported}
use Rattle.qc_widths.specs.Inner.Repeated.{noted_all, single_name}
use Rattle.qc_widths.proofs.Singles.{repeated_singles, single_names}
use Rattle.qc_widths.proofs.repeated.second_single.Goals as goal

pub returns : goal.returns
returns c =
    let items = c.args.items.now in
    let rest : drop c.loop-item.item-index items ≡ [] = grind (arith, common_steps) in
    ap (λ xs. (noted_all c.loop-item.seen (flat_map single_name xs)).fault) (sym rest)
    ∙ ap (λ s. s.fault) c.loop-item.invariant
    ∙ seen_fault token_of rank_of TwiceNamed (flat_map single_name items)
    ∙ ap (λ names. reported (repeated_after [] names)) (single_names items)
    ∙ ap reported (repeated_singles [] (flat_map single_item items))

pub loop-item-preserved : goal.loop-item-preserved
loop-item-preserved c =
    noted_more token_of rank_of TwiceNamed single_name c.loop-item.seen c.see_single.new.seen _ c.args.items.now c.loop-item.item-index
    c.item-item.result c.loop-item-test.true c.item-item.is c.in_ok-see_single.ensures c.loop-item.invariant
