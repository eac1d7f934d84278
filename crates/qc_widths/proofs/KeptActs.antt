-- What is kept of effects tells whether they pass the limit of nodes, and what they are where they don't.
use Rattle.std.specs.Prelude.{◌≡◌, List}
use Rattle.std.proofs.Common.{sym, subst, arith, inl, inr}
use Rattle.std.proofs.lemmas.Bool.{cases_lt}
use Rattle.std.proofs.lemmas.Grind.{common_steps}
use Rattle.qc_widths.specs.declared.acts.Acts.{Acts}
use Rattle.qc_widths.specs.Inner.Elaboration.{AreActs}
use Rattle.qc_widths.specs.Inner.KeptEffects.{seen_acts, nodes_in_acts}
use Rattle.qc_resolve.specs.Scopes.{Act}

seen_are : (acts : List Act) → AreActs acts (seen_acts acts)
unfolding seen_acts
seen_are acts = elim (cases_lt 4096 (nodes_in_acts acts)) [
  | inl large ↦ grind (arith, large, common_steps)
  | inr small ↦ grind (arith, small, common_steps)
]

pub kept_acts : (kept : Acts) (acts : List Act) → kept ≡ seen_acts acts → AreActs acts kept
kept_acts kept acts is = subst (AreActs acts) (sym is) (seen_are acts)
