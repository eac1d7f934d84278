use Rattle.std.specs.Prelude.{◌≡◌, [], map}
use Rattle.std.proofs.Common.{ap, sym, ◌∙◌, arith, drop}
use Rattle.std.proofs.lemmas.Grind.{common_steps}
use Rattle.qc_names.specs.Law.Seen.{seen_fault}
use Rattle.qc_facts.specs.declared.faults.WidthFault.TheVariants.{TwiceNamed}
use Rattle.qc_facts.specs.Faults.{token_of, rank_of}
use Rattle.qc_widths.specs.Inner.Repeated.{noted_all}
use Rattle.qc_widths.proofs.repeated.operand_names_fault.Goals as goal

pub returns : goal.returns
returns c =
    let rest : drop c.loop-operand.operand-index c.args.operands.now ≡ [] = grind (arith, common_steps) in
    ap (λ operands. (noted_all c.loop-operand.seen (map (λ p. p.name) operands)).fault) (sym rest)
    ∙ ap (λ s. s.fault) c.loop-operand.invariant
    ∙ seen_fault token_of rank_of TwiceNamed (map (λ p. p.name) c.args.operands.now)
