use Rattle.std.specs.Prelude.{◌≡◌, [], map}
use Rattle.std.proofs.Common.{ap, sym, ◌∙◌, arith, drop}
use Rattle.std.proofs.lemmas.Grind.{common_steps}
use Rattle.qc_names.specs.Law.Seen.{seen_fault}
use Rattle.qc_facts.specs.declared.faults.WidthFault.TheVariants.{TwiceNamed}
use Rattle.qc_facts.specs.Faults.{token_of, rank_of}
use Rattle.qc_widths.specs.Inner.Repeated.{noted_all}
use Rattle.qc_widths.proofs.repeated.params_fault.Goals as goal

pub returns : goal.returns
returns c =
    let rest : drop c.loop-param.param-index c.args.params.now ≡ [] = grind (arith, common_steps) in
    ap (λ params. (noted_all c.loop-param.seen (map (λ p. p.name) params)).fault) (sym rest)
    ∙ ap (λ s. s.fault) c.loop-param.invariant
    ∙ seen_fault token_of rank_of TwiceNamed (map (λ p. p.name) c.args.params.now)
