use Rattle.std.proofs.Common.{◌∙◌}
use Rattle.qc_named.specs.Inner.Scopes.{owns_in, standing_at}
use Rattle.qc_named.proofs.Lookups.{named_again}
use Rattle.qc_named.proofs.standing.own_in.Goals as goal

pub returns : goal.returns
unfolding standing_at
returns c =
    let owns = owns_in c.args.scope.now.names.facts.now c.args.scope.now.names.locals in
    c.copied.ensures ∙ c.get.ensures owns c.requires.owns ∙ named_again owns c.args.name.now
