-- Register transfer lists whose terms are chains, and what they do. They set cells, memory and the program counter, and
-- read no input.
use Rattle.std.specs.Prelude.{ℕ, ◌≡◌, ◌<◌, ◌≤◌, List, [], ◌∷◌, ◌++◌, length, slice_index, Option, None, Some, IfSome, option_and_then, Bool, true, false, not, ◌&&◌, if◌then◌else◌, nat_eq, nat_le, All}
use Rattle.std.specs.List.{list_all}
use Rattle.std.specs.Option.{option_map}
use Rattle.qc_terms.specs.declared.state.State.{State}
use Rattle.qc_terms.specs.declared.term.Dest.{Dest}
use Rattle.qc_terms.specs.declared.term.Dest.TheVariants as dest
use Rattle.qc_terms.specs.declared.term.Effect.{Effect}
use Rattle.qc_terms.specs.declared.term.Rtl.{Rtl}
use Rattle.qc_terms.specs.declared.term.Term.{Term}
use Rattle.qc_terms.specs.Effects.{Outcome, outcome_of, ToCell, ToCounter, Write, outcome_of_writes, rtl_has_input, store_at, writes_of_effect}
use Rattle.qc_terms.specs.State.{Context}
use Rattle.qc_terms.specs.Tree.{tree_of}
use Rattle.qc_flat.specs.declared.chain.Chain.{Chain}
use Rattle.qc_flat.specs.declared.effect.FlatDest.{FlatDest}
use Rattle.qc_flat.specs.declared.effect.FlatDest.TheVariants.{Cell, Memory, Counter}
use Rattle.qc_flat.specs.declared.effect.FlatEffect.{FlatEffect}
use Rattle.qc_flat.specs.Chain.{IsTypedChain, has_chain, value_of_chain}

-- the write of a word; none where a store has no address, or isn't wholly inside the memory
abbrev pub flat_write_of : FlatDest → State → ℕ → Option Write
flat_write_of (Cell space index) s word = Some (ToCell space index word)
flat_write_of (Memory count address) s word = option_and_then (store_at s.memory count word) (value_of_chain address s)
flat_write_of Counter s word = Some (ToCounter word)

-- an effect without a guard always takes place
abbrev pub flat_guard_of : Option Chain → State → Option ℕ
flat_guard_of None s = Some 1
flat_guard_of (Some guard) s = value_of_chain guard s

-- the write of an effect, if its guard is true; none where what is needed has no value
unfoldable pub writes_of_flat_effect : FlatEffect → State → Option (List Write)
writes_of_flat_effect e s =
    option_and_then
    (λ guard. if nat_eq guard 0 then Some [] else
    option_map (λ write. write ∷ []) (option_and_then (flat_write_of e.to s) (value_of_chain e.value s)))
    (flat_guard_of e.guard s)

-- the writes of all effects in order; none where one of them needs what has no value
abbrev pub writes_of_flat : List FlatEffect → State → Option (List Write)
writes_of_flat [] s = Some []
writes_of_flat (e ∷ es) s =
    option_and_then (λ first. option_map (λ rest. first ++ rest) (writes_of_flat es s)) (writes_of_flat_effect e s)

-- what the effects do, and the address after the instruction
abbrev pub outcome_of_flat : List FlatEffect → ℕ → State → Outcome
outcome_of_flat es after s = outcome_of_writes (writes_of_flat es s) false after s

-- a destination that is there, and takes words of this width
abbrev pub IsTypedFlatDest : Context → ℕ → FlatDest → Type 0
IsTypedFlatDest context width (Cell space index) =
    (space < length context.widths) × (index < slice_index context.counts space) × (width ≡ slice_index context.widths space)
IsTypedFlatDest context width (Memory count address) = (count ≤ 8) × IsTypedChain context address
IsTypedFlatDest context width Counter = width ≡ context.word

-- the effect can be run in each state with this word and these spaces
pub record IsTypedFlatEffect (context : Context) (e : FlatEffect) : Type 0 where
  pub guard : IfSome e.guard (IsTypedChain context)
  pub value : IsTypedChain context e.value
  pub to : IsTypedFlatDest context e.value.width e.to

-- The effect stands for another one under these operands, with this address after the instruction, in each state where
-- this cell always reads 0.
pub record IsFlatOf (context : Context) (zero : Option (ℕ × ℕ)) (operands : List ℕ) (after : ℕ) (e : Effect) (f : FlatEffect) : Type 0 where
  pub typed : IsTypedFlatEffect context f
  pub writes : (s : State) → s.facts.zero ≡ zero → writes_of_flat_effect f s ≡ writes_of_effect e operands after s

-- each effect stands for the one at its place
abbrev pub AreFlatOf : Context → Option (ℕ × ℕ) → List ℕ → ℕ → List Effect → List FlatEffect → Type 0
AreFlatOf context zero operands after [] [] = Unit {0}
AreFlatOf context zero operands after (e ∷ es) (f ∷ fs) =
    IsFlatOf context zero operands after e f × AreFlatOf context zero operands after es fs
AreFlatOf context zero operands after _ _ = ⊥

-- The flat effects have the outcome of a list with these operands and this address after the instruction, and can be run,
-- in each state of a machine with this word, these spaces and this zero cell.
pub record IsFlatListOf (context : Context) (zero : Option (ℕ × ℕ)) (rtl : Rtl) (operands : List ℕ) (after : ℕ) (fs : List FlatEffect) : Type 0 where
  pub typed : All (IsTypedFlatEffect context) fs
  pub outcome : (s : State) → s.facts.zero ≡ zero → outcome_of_flat fs after s ≡ outcome_of rtl operands after s

-- an effect without a guard needs no chain for it
abbrev pub has_flat_guard : Option Term → Bool
has_flat_guard None = true
has_flat_guard (Some guard) = has_chain (tree_of guard)

-- the destination shows nothing, and its address, if it has one, has a chain
abbrev pub has_flat_dest : Dest → Bool
has_flat_dest (dest.Reg place) = true
has_flat_dest (dest.Mem width address) = has_chain (tree_of address)
has_flat_dest dest.Pc = true
has_flat_dest dest.Out = false
has_flat_dest dest.Halt = false
has_flat_dest dest.Trap = false

-- the effect shows nothing, and each of its terms has a chain
unfoldable pub has_flat_effect : Effect → Bool
has_flat_effect e = has_flat_guard e.guard && (has_flat_dest e.to && has_chain (tree_of e.value))

-- at most three effects, each of which has a flat one
abbrev pub have_flat_effects : List Effect → Bool
have_flat_effects es = nat_le (length es) 3 && list_all has_flat_effect es

-- Which lists have flat effects: those that read no input, show nothing, have at most three effects and no long terms.
abbrev pub has_flat_form : Rtl → Bool
has_flat_form rtl = not (rtl_has_input rtl) && have_flat_effects rtl.effects
