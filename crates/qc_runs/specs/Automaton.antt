-- Deterministic automata that show what they have put out, and their runs, cut into turns.
use Rattle.std.specs.Prelude.{ℕ, zero, suc, ◌≡◌, ◌+◌, ◌<◌, ◌≤◌, ◌⊎◌, Bool, true, false, ◌||◌, if◌then◌else◌, is_some}
use Rattle.qc_terms.specs.Observation.{Observation, Below}

pub record Automaton (S : Type 0) : Type 0 where
  -- the state after a step
  pub next : S → S
  -- what has been put out in a state, and its ending
  pub shown : S → Observation
  -- the step from a state is a turn: it leads to a place that doesn't stand after the present one
  pub turns : S → Bool

abbrev pub has_ended : {S : Type 0} → Automaton S → S → Bool
has_ended p s = is_some (p.shown s).ending

-- the state has ended, or a turn comes next
abbrev pub is_over : {S : Type 0} → Automaton S → S → Bool
is_over p s = has_ended p s || p.turns s

-- A state that has ended stays, without turns, and no step takes back what was shown.
pub record IsAutomaton {S : Type 0} (p : Automaton S) : Type 0 where
  pub stays : (s : S) → has_ended p s ≡ true → p.next s ≡ s
  pub ends : (s : S) → has_ended p s ≡ true → p.turns s ≡ false
  pub grows : (s : S) → Below (p.shown s) (p.shown (p.next s))

-- the state after so many steps
abbrev pub after : {S : Type 0} → Automaton S → ℕ → S → S
after p zero s = s
after p (suc n) s = p.next (after p n s)

abbrev pub as_number : Bool → ℕ
as_number true = 1
as_number false = 0

-- how many of the first steps from a state are turns
abbrev pub turns_in : {S : Type 0} → Automaton S → ℕ → S → ℕ
turns_in p zero s = 0
turns_in p (suc n) s = turns_in p n s + as_number (p.turns (after p n s))

-- A rank below a bound that rises at each step that is neither a turn nor an end. So turns come in time.
pub record Rises {S : Type 0} (p : Automaton S) (most : ℕ) (rank : S → ℕ) : Type 0 where
  pub bound : (s : S) → rank s < most
  pub rises : (s : S) → is_over p s ≡ false → (has_ended p (p.next s) ≡ true) ⊎ (rank s < rank (p.next s))

-- This state is the last one of the run from s before its turn t + 1, or the one in which the run ended.
pub record IsBefore {S : Type 0} (p : Automaton S) (s : S) (t : ℕ) (u : S) : Type 0 where
  pub steps : ℕ
  pub is : u ≡ after p steps s
  pub few : turns_in p steps s ≤ t
  pub over : (has_ended p u ≡ true) ⊎ ((p.turns u ≡ true) × (turns_in p steps s ≡ t))

-- The state to which a run goes on without a turn. The first number bounds the steps between two turns.
abbrev pub settled : {S : Type 0} → Automaton S → ℕ → S → S
settled p zero s = s
settled p (suc n) s = if is_over p s then s else settled p n (p.next s)

-- that state, computed
abbrev pub before : {S : Type 0} → Automaton S → (most : ℕ) → S → (t : ℕ) → S
before p most s zero = settled p most s
before p most s (suc t) = settled p most (p.next (before p most s t))

-- two runs show the same before each turn
abbrev pub Same : {S U : Type 0} → Automaton S → (most : ℕ) → S → Automaton U → (least : ℕ) → U → Type 0
Same p most s q least u = (t : ℕ) → q.shown (before q least u t) ≡ p.shown (before p most s t)
