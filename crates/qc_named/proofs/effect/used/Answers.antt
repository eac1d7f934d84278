use Rattle.std.proofs.Common.{List, None, length, map, sym, ap, ◌∙◌}
use Rattle.std.proofs.lemmas.List.{length-map}
use Rattle.std.specs.Option.{option_map}
use Rattle.qc_bodies.specs.Trees.{core_of}
use Rattle.qc_named.specs.Inner.Scopes.{like_kept, standing_at}
use Rattle.qc_named.specs.Resolved.{Resolved, resolved}
use Rattle.qc_named.specs.ResolvedEffects.{acts_of_placed}
use Rattle.qc_named.specs.Standing.{Standing}
use Rattle.qc_named.proofs.Arguments.{effects_so}
use Rattle.qc_named.proofs.effect.used.Goals as goal

pub returns-in_ok-found-in-Some : goal.returns-in_ok-found-in-Some
returns-in_ok-found-in-Some c =
    let standing : Standing = standing_at c.args.scope.now.names in
    let args : List Resolved = map resolved c.args.args.now in
    let s = c.in-Some.signature.now in
    effects_so standing s c.in-Some.number (length c.args.args.now) args c.as_slice.result.now
    c.in_ok-found-in-Some.found c.args.guard (length-map c.args.args.now resolved) c.as_slice.ensures c.in_ok-found-in-Some.ensures
    (sym c.takes.ensures ∙ c.if-takes.true)
    ∙ ap (λ o. acts_of_placed standing (option_map core_of c.args.guard) None None (like_kept (option_map (λ p. (p.0, p.1.now)) o)) args) (sym c.in-Some.is)
