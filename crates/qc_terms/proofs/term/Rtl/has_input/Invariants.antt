use Rattle.std.proofs.Common.{◌≡◌, drop}
use Rattle.std.specs.List.{list_any}
use Rattle.qc_terms.specs.Effects.{effect_has_input}
use Rattle.qc_terms.proofs.term.Rtl.has_input.Given as goal

abbrev pub invariant-loop-effect : goal.invariant-loop-effect
invariant-loop-effect l =
    list_any effect_has_input (drop l.effect-index l.self.effects) ≡ list_any effect_has_input l.self.effects
