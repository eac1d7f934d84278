-- Guards and destinations with their operands filled in.
use Rattle.std.specs.Prelude.{ℕ, ◌≡◌, List, Option}
use Rattle.qc_terms.specs.declared.state.State.{State}
use Rattle.qc_terms.specs.declared.term.Dest.{Dest}
use Rattle.qc_terms.specs.declared.term.Term.{Term}
use Rattle.qc_terms.specs.Effects.{guard_of, write_of}
use Rattle.qc_terms.specs.State.{Context}
use Rattle.qc_terms.specs.Typing.{TakesWidth}
use Rattle.std.specs.Prelude.{IfSome}
use Rattle.qc_flat.specs.declared.chain.Chain.{Chain}
use Rattle.qc_flat.specs.declared.effect.FlatDest.{FlatDest}
use Rattle.qc_flat.specs.Chain.{IsTypedChain}
use Rattle.qc_flat.specs.Flat.{IsTypedFlatDest, flat_guard_of, flat_write_of}

-- the chain can be run, and has the guard's value
pub record IsGuardOf (context : Context) (zero : Option (ℕ × ℕ)) (operands : List ℕ) (after : ℕ) (g : Option Term) (c : Option Chain) : Type 0 where
  pub typed : IfSome c (IsTypedChain context)
  pub value : (s : State) → s.facts.zero ≡ zero → flat_guard_of c s ≡ guard_of g operands after s

-- the destination takes what the other one takes, and makes the same write
pub record IsDestOf (context : Context) (zero : Option (ℕ × ℕ)) (operands : List ℕ) (after : ℕ) (to : Dest) (flat : FlatDest) : Type 0 where
  pub typed : (width : ℕ) → TakesWidth context to width → IsTypedFlatDest context width flat
  pub write : (s : State) (word : ℕ) → s.facts.zero ≡ zero → flat_write_of flat s word ≡ write_of to operands after s word
