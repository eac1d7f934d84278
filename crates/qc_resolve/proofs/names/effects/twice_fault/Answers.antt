use Rattle.std.proofs.Common.{◌≡◌, List, ℕ, Some, None, drop, sym, ap, ◌∙◌}
use Rattle.std.specs.List.{flat_map}
use Rattle.std.specs.Option.{option_map}
use Rattle.qc_facts.specs.declared.faults.WidthFault.TheVariants.{TwiceNamed}
use Rattle.qc_resolve.specs.Effects.{effect_events}
use Rattle.qc_resolve.specs.KeptSignatures.{least}
use Rattle.qc_resolve.specs.KeptNames.{names_at}
use Rattle.qc_resolve.proofs.Kept.{reported-twice, later-is}
use Rattle.qc_resolve.proofs.names.effects.twice_fault.Goals as goal

pub returns-in-Some : goal.returns-in-Some
returns-in-Some c =
    let tokens : List ℕ = flat_map (effect_events (names_at c.args.names.now)) c.args.body.now in
    let e : least (drop 1 tokens) ≡ Some c.in-Some.token =
    sym (later-is tokens) ∙ ap (λ e. e.later) (sym c.body_events.ensures) ∙ c.in-Some.is in
    sym (reported-twice (drop 1 tokens) ∙ ap (option_map TwiceNamed) e)

pub returns-in-None : goal.returns-in-None
returns-in-None c =
    let tokens : List ℕ = flat_map (effect_events (names_at c.args.names.now)) c.args.body.now in
    let e : least (drop 1 tokens) ≡ None =
    sym (later-is tokens) ∙ ap (λ e. e.later) (sym c.body_events.ensures) ∙ c.in-None.is in
    sym (reported-twice (drop 1 tokens) ∙ ap (option_map TwiceNamed) e)
