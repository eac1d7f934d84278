-- Lists of needs with the slots of their own: where they end, when they suit, what holds them.
use Rattle.std.proofs.Common.{◌≡◌, ◌≢◌, ◌∙◌, ◌⊎◌, ◌+◌, ◌≤◌, ◌<◌, ℕ, List, [], ◌∷◌, ◌++◌, true, Some, slice_index, inl, inr, refl, sym, arith}
use Rattle.qc_terms.specs.declared.state.State.{State}
use Rattle.qc_terms.specs.Cells.{cell_of}
use Rattle.qc_terms.specs.Tree.{Number, Tree}
use Rattle.qc_descr.specs.Description.{counts_of}
use Rattle.qc_code.specs.declared.template.Slot.{Slot}
use Rattle.qc_code.specs.declared.template.Slot.TheVariants as slot
use Rattle.qc_code.specs.Setting.{slot_value}
use Rattle.qc_code.specs.TileHolds.{is_flag_space}
use Rattle.qc_derivations.specs.Goals.{AsTile, InFlag, InRegister, Need}
use Rattle.qc_derivations.specs.Same.{inputs_in}
use Rattle.qc_soundness.proofs.ChildStep.{Faults}
use Rattle.qc_soundness.proofs.Patterns.{value_at}
use Rattle.qc_soundness.proofs.Scene.{Scene, at_front}

-- the value that a child is to compute
abbrev pub needed : Need → Tree
needed (InRegister value) = value
needed (InFlag space index value) = value
needed (AsTile assignments) = Number 0 1

abbrev pub NeedHolds : (Tree → Type 0) → Need → Type 0
NeedHolds Holds n = Holds (needed n)

abbrev pub inputs_needed : List Need → ℕ
inputs_needed [] = 0
inputs_needed (n ∷ ns) = inputs_in (needed n) + inputs_needed ns

pub inputs_needed-append : (ns ms : List Need) → inputs_needed (ns ++ ms) ≡ inputs_needed ns + inputs_needed ms
inputs_needed-append [] ms = omega arith
inputs_needed-append (n ∷ ns) ms = let deep = inputs_needed-append ns ms in omega (arith, deep)

abbrev pub SomeFaults : Scene → ℕ → List Need → Type 0
SomeFaults c code [] = ⊥
SomeFaults c code (n ∷ ns) = Faults c code (needed n) ⊎ SomeFaults c code ns

-- the scratch of this number is a need's own
abbrev pub IsEndOf : Need → Slot → ℕ → Type 0
IsEndOf (InRegister value) o k = o ≡ slot.Scratch k
IsEndOf (InFlag space index value) o k = ⊥
IsEndOf (AsTile assignments) o k = ⊥

abbrev pub IsEnd : List Need → List Slot → ℕ → Type 0
IsEnd [] os k = ⊥
IsEnd (n ∷ ns) [] k = ⊥
IsEnd (n ∷ ns) (o ∷ os) k = IsEndOf n o k ⊎ IsEnd ns os k

-- a register is a scratch of a lower number, and a flag comes last
abbrev pub SuitsOne : Scene → Need → Slot → ℕ → List Need → Type 0
SuitsOne c (InRegister value) o low ns = (k : ℕ) × (o ≡ slot.Scratch k) × (k < low)
SuitsOne c (InFlag space index value) o low ns = (is_flag_space c.d space ≡ true) × (index < slice_index (counts_of c.d) space) × (ns ≡ [])
SuitsOne c (AsTile assignments) o low ns = ⊥

abbrev pub SuitAll : Scene → List Need → List Slot → ℕ → Type 0
SuitAll c [] [] low = Unit {0}
SuitAll c [] (o ∷ os) low = ⊥
SuitAll c (n ∷ ns) [] low = ⊥
SuitAll c (n ∷ ns) (o ∷ os) low =
    SuitsOne c n o low ns × ((k j : ℕ) → IsEndOf n o k → IsEnd ns os j → k ≢ j) × SuitAll c ns os low

-- what is needed is in the need's own cell
abbrev pub HeldAt : Scene → Need → Slot → State → Type 0
HeldAt c (InRegister value) o s = value_at value (at_front c) ≡ Some (cell_of s.cells c.d.allocatable (slot_value c.t c.e o))
HeldAt c (InFlag space index value) o s = value_at value (at_front c) ≡ Some (cell_of s.cells space index)
HeldAt c (AsTile assignments) o s = ⊥

abbrev pub HeldAll : Scene → List Need → List Slot → State → Type 0
HeldAll c [] os s = Unit {0}
HeldAll c (n ∷ ns) [] s = ⊥
HeldAll c (n ∷ ns) (o ∷ os) s = HeldAt c n o s × HeldAll c ns os s

-- the scratches that a forest writes
abbrev pub IsReached : List Need → List Slot → (low high k : ℕ) → Type 0
IsReached ns os low high k = ((low ≤ k) × (k < high)) ⊎ IsEnd ns os k

-- ends of needs that suit are below
pub end_below : (c : Scene) (ns : List Need) (os : List Slot) (low k : ℕ) → SuitAll c ns os low → IsEnd ns os k → k < low
end_below c [] os low k suit end = absurd end
end_below c (n ∷ ns) [] low k suit end = absurd end
end_below c (InRegister v ∷ ns) (o ∷ os) low k suit (inl here) =
    let one : o ≡ slot.Scratch suit.0.0 = suit.0.1 in
    let same : suit.0.0 ≡ k = let it : slot.Scratch suit.0.0 ≡ slot.Scratch k = sym one ∙ here in cc in
    omega (arith, suit.0.2, same)
end_below c (InFlag s i v ∷ ns) (o ∷ os) low k suit (inl here) = absurd here
end_below c (AsTile a ∷ ns) (o ∷ os) low k suit (inl here) = absurd here
end_below c (n ∷ ns) (o ∷ os) low k suit (inr there) = end_below c ns os low k suit.2 there

-- ---- one more need, of a flag

pub end_append : (ns : List Need) (os : List Slot) (space index : ℕ) (v : Tree) (o : Slot) (c : Scene) (low k : ℕ) → SuitAll c ns os low →
    IsEnd (ns ++ (InFlag space index v ∷ [])) (os ++ (o ∷ [])) k → IsEnd ns os k
end_append [] [] space index v o c low k suit (inl here) = absurd here
end_append [] [] space index v o c low k suit (inr there) = absurd there
end_append [] (p ∷ os) space index v o c low k suit end = absurd suit
end_append (n ∷ ns) [] space index v o c low k suit end = absurd suit
end_append (n ∷ ns) (p ∷ os) space index v o c low k suit (inl here) = inl here
end_append (n ∷ ns) (p ∷ os) space index v o c low k suit (inr there) = inr (end_append ns os space index v o c low k suit.2 there)

-- all are for registers
abbrev pub AreRegisters : List Need → Type 0
AreRegisters [] = Unit {0}
AreRegisters (InRegister v ∷ ns) = AreRegisters ns
AreRegisters (InFlag s i v ∷ ns) = ⊥
AreRegisters (AsTile a ∷ ns) = ⊥

pub suit_append : (c : Scene) (ns : List Need) (os : List Slot) (space index : ℕ) (v : Tree) (o : Slot) (low : ℕ) → AreRegisters ns → SuitAll c ns os low →
    is_flag_space c.d space ≡ true → index < slice_index (counts_of c.d) space → SuitAll c (ns ++ (InFlag space index v ∷ [])) (os ++ (o ∷ [])) low
suit_append c [] [] space index v o low are suit flag inside = ((flag, inside, refl), (λ k j end other. absurd end), tt)
suit_append c [] (p ∷ os) space index v o low are suit flag inside = absurd suit
suit_append c (n ∷ ns) [] space index v o low are suit flag inside = absurd suit
suit_append c (InRegister value ∷ ns) (p ∷ os) space index v o low are suit flag inside = (
  suit.0,
  (λ k j end other. suit.1 k j end (end_append ns os space index v o c low j suit.2 other)),
  suit_append c ns os space index v o low are suit.2 flag inside,
)
suit_append c (InFlag s i value ∷ ns) (p ∷ os) space index v o low are suit flag inside = absurd are
suit_append c (AsTile a ∷ ns) (p ∷ os) space index v o low are suit flag inside = absurd are

pub held_split : (c : Scene) (ns : List Need) (os : List Slot) (space index : ℕ) (v : Tree) (o : Slot) (low : ℕ) (s : State) → SuitAll c ns os low →
    HeldAll c (ns ++ (InFlag space index v ∷ [])) (os ++ (o ∷ [])) s →
    HeldAll c ns os s × (value_at v (at_front c) ≡ Some (cell_of s.cells space index))
held_split c [] [] space index v o low s suit held = (tt, held.0)
held_split c [] (p ∷ os) space index v o low s suit held = absurd suit
held_split c (n ∷ ns) [] space index v o low s suit held = absurd suit
held_split c (n ∷ ns) (p ∷ os) space index v o low s suit held =
    let deep = held_split c ns os space index v o low s suit.2 held.1 in ((held.0, deep.0), deep.1)
