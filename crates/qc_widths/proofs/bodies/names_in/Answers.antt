use Rattle.std.proofs.Common.{◌≡◌, ◌≤◌, length, take, ap, arith, length-take-le}
use Rattle.qc_resolve.specs.Declarations.{names_for}
use Rattle.qc_widths.specs.Inner.Elaboration.{all_signatures}
use Rattle.qc_resolve.specs.KeptNames.{names_at, locals_in}
use Rattle.qc_resolve.specs.Law.Earlier.{first_summaries, as_many}
use Rattle.qc_widths.proofs.bodies.names_in.Goals as goal

pub returns-clause-ready : goal.returns-clause-ready
unfolding all_signatures
returns-clause-ready c =
    let t = c.args.context.now in
    let many : length t.signatures.now ≡ length (all_signatures t) =
    as_many (all_signatures t) t.signatures.now c.requires.context.signatures in
    record {
      table = c.requires.context.functions;
      summaries = first_summaries (all_signatures t) t.signatures.now c.args.level c.requires.context.signatures
          (omega arith);
    }

pub returns-clause-names : goal.returns-clause-names
unfolding all_signatures names_at
returns-clause-names c =
    let t = c.args.context.now in
    let many : length t.signatures.now ≡ length (all_signatures t) =
    as_many (all_signatures t) t.signatures.now c.requires.context.signatures in
    let within : c.args.level ≤ length t.signatures.now = omega arith in
    ap (λ level. names_for t.facts.now (take level (all_signatures t)) (locals_in c.args.locals))
    (length-take-le c.args.level t.signatures.now within)
