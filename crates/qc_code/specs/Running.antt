-- Register transfer lists that are performed one after another.
use Rattle.std.specs.Prelude.{ℕ, List, [], ◌∷◌, ◌++◌, Option, None, Some}
use Rattle.qc_terms.specs.declared.state.Event.{Event}
use Rattle.qc_terms.specs.declared.term.Rtl.{Rtl}
use Rattle.qc_terms.specs.Effects.{Outcome, outcome_of}
use Rattle.qc_terms.specs.Observation.{words_of}
use Rattle.qc_descr.specs.Step.{Progress}

-- a register transfer list with its operands, and the address after it
pub record Transfer : Type 0 where
  pub rtl : Rtl
  pub operands : List ℕ
  pub after : ℕ

-- a run that has come this far, with an outcome more
abbrev pub with_outcome : Progress → Outcome → Progress
with_outcome p o = record { state = o.state; output = p.output ++ words_of o.event }

-- one list more; a run that has ended with an event stays
abbrev pub goes_on : Option Event → Transfer → Progress → Progress
goes_on (Some event) x p = p
goes_on None x p = with_outcome p (outcome_of x.rtl x.operands x.after p.state)

-- where a run is after these lists, one after another
abbrev pub run_of : List Transfer → Progress → Progress
run_of [] p = p
run_of (x ∷ xs) p = run_of xs (goes_on p.state.ending x p)
