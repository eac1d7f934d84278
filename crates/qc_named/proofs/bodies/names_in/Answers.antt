use Rattle.std.proofs.Common.{◌≡◌, ◌≤◌, length, take, ap, arith, length-take-le}
use Rattle.qc_resolve.specs.Declarations.{names_for}
use Rattle.qc_resolve.specs.KeptNames.{names_at, locals_in}
use Rattle.qc_resolve.specs.Law.Earlier.{first_summaries, as_many}
use Rattle.qc_named.specs.Contexts.{signatures_at}
use Rattle.qc_named.specs.Inner.Scopes.{owns_in, standing_at}
use Rattle.qc_named.specs.Standing.{standing_for}
use Rattle.qc_named.proofs.bodies.names_in.Goals as goal

pub returns-clause-ready : goal.returns-clause-ready
returns-clause-ready c =
    let t = c.args.context.now in
    let many : length t.signatures.now ≡ length (signatures_at t) =
    as_many (signatures_at t) t.signatures.now c.requires.context.signatures in
    record {
      table = c.requires.context.functions;
      summaries = first_summaries (signatures_at t) t.signatures.now c.args.level c.requires.context.signatures (omega arith);
    }

pub returns-clause-standing : goal.returns-clause-standing
unfolding standing_at
returns-clause-standing c =
    let t = c.args.context.now in
    let many : length t.signatures.now ≡ length (signatures_at t) =
    as_many (signatures_at t) t.signatures.now c.requires.context.signatures in
    let within : c.args.level ≤ length t.signatures.now = omega arith in
    ap (λ level. standing_for t.facts.now (take level (signatures_at t)) (owns_in t.facts.now c.args.locals))
    (length-take-le c.args.level t.signatures.now within)

pub returns-clause-names : goal.returns-clause-names
unfolding names_at
returns-clause-names c =
    let t = c.args.context.now in
    let many : length t.signatures.now ≡ length (signatures_at t) =
    as_many (signatures_at t) t.signatures.now c.requires.context.signatures in
    let within : c.args.level ≤ length t.signatures.now = omega arith in
    ap (λ level. names_for t.facts.now (take level (signatures_at t)) (locals_in c.args.locals))
    (length-take-le c.args.level t.signatures.now within)
