-- What code keeps of effects: no more of those with more than 4,096 nodes than that they are such.
use Rattle.std.specs.Prelude.{ℕ, ◌≡◌, ◌+◌, nat_lt, if◌then◌else◌, List, [], ◌∷◌, map, Option, None, Some}
use Rattle.std.specs.List.{flat_map}
use Rattle.qc_widths.specs.TextFaults.{rtl_of}
use Rattle.qc_terms.specs.declared.term.Effect.{Effect}
use Rattle.qc_terms.specs.declared.term.Term.{Term}
use Rattle.qc_descr.specs.Valid.{nodes_of_rtl}
use Rattle.qc_widths.specs.declared.acts.Acts.{Acts}
use Rattle.qc_widths.specs.declared.acts.Acts.TheVariants.{Huge, Known}
use Rattle.qc_resolve.specs.Effects.{clashes_of_act, effect_of, joined}
use Rattle.qc_facts.specs.Faults.{reported}
use Rattle.qc_resolve.specs.Scopes.{Act}

-- the nodes of all terms of effects
abbrev pub nodes_in_acts : List Act → ℕ
nodes_in_acts acts = nodes_of_rtl (rtl_of acts)

-- what is kept of effects
unfoldable pub seen_acts : List Act → Acts
seen_acts acts = if nat_lt 4096 (nodes_in_acts acts) then Huge
    else Known (map effect_of acts) (nodes_in_acts acts) (reported (flat_map clashes_of_act acts))

-- the code's effects are what is kept of these
abbrev pub IsActs : Acts → List Act → Type 0
IsActs kept acts = kept ≡ seen_acts acts

-- an effect under one more guard
abbrev pub under : Term → Effect → Effect
under guard e = record { guard = Some (joined guard e.guard); to = e.to; value = e.value }

-- the nodes that a guard of so many adds to an effect
abbrev pub more_under : ℕ → Option Term → ℕ
more_under guard None = guard
more_under guard (Some inner) = guard + 1

-- the nodes of effects that have so many, under a guard of so many
abbrev pub nodes_under : ℕ → ℕ → List Effect → ℕ
nodes_under nodes guard [] = nodes
nodes_under nodes guard (e ∷ effects) = nodes_under (nodes + more_under guard e.guard) guard effects
