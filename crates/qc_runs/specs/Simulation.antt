-- What it means that one automaton simulates another, step by step.
use Rattle.std.specs.Prelude.{ℕ, ◌≡◌, ◌<◌, ◌≤◌, ◌⊎◌, true, false}
use Rattle.qc_runs.specs.Automaton.{Automaton, after, has_ended, is_over, turns_in}

-- ---- a source, of which each step is answered by steps of a target

-- The target's steps that answer one step of the source. There is at most one turn among them, and where there is none
-- the rank of the target's state rises.
pub record Answers {A S : Type 0} (source : Automaton A) (p : Automaton S) (Related : A → S → Type 0) (rank : S → ℕ) (a : A) (s : S) : Type 0 where
  pub steps : ℕ
  pub related : Related (source.next a) (after p steps s)
  pub one : turns_in p steps s ≤ 1
  pub rises : turns_in p steps s ≡ 0 → (has_ended source (source.next a) ≡ true) ⊎ (rank s < rank (after p steps s))

pub record Simulates {A S : Type 0} (source : Automaton A) (p : Automaton S) (Related : A → S → Type 0) (most : ℕ) (rank : S → ℕ) : Type 0 where
  pub shows : (a : A) (s : S) → Related a s → p.shown s ≡ source.shown a
  pub bound : (s : S) → rank s < most
  pub answers : (a : A) (s : S) → Related a s → has_ended source a ≡ false → Answers source p Related rank a s

-- the target comes to a state that is related to the source's first one, with at most one turn
pub record Starts {A S : Type 0} (p : Automaton S) (Related : A → S → Type 0) (a : A) (s : S) : Type 0 where
  pub steps : ℕ
  pub one : turns_in p steps s ≤ 1
  pub related : Related a (after p steps s)

-- ---- paths, and a target that turns where its source turns

-- Steps with so many turns lead from one state to the other, and all states on the way are nice, the last one perhaps not.
pub record Path {S : Type 0} (p : Automaton S) (Nice : S → Type 0) (s u : S) (turns : ℕ) : Type 0 where
  pub steps : ℕ
  pub is : u ≡ after p steps s
  pub counted : turns_in p steps s ≡ turns
  pub nice : (k : ℕ) → k < steps → Nice (after p k s)

-- a step that is no turn is answered by steps that are none, perhaps by no step at all
pub record Quietly {S U : Type 0} (p : Automaton S) (q : Automaton U) (Nice : U → Type 0) (Related : S → U → Type 0) (s : S) (u : U) : Type 0 where
  pub to : U
  pub quiet : Path q Nice u to 0
  pub related : Related (p.next s) to

-- a turn is answered by steps to a nice state that turns and shows what the source's state shows, its turn, and more steps
pub record Turning {S U : Type 0} (p : Automaton S) (q : Automaton U) (Nice : U → Type 0) (Related : S → U → Type 0) (s : S) (u : U) : Type 0 where
  pub at : U
  pub comes : Path q Nice u at 0
  pub shows : q.shown at ≡ p.shown s
  pub turns : q.turns at ≡ true
  pub nice : Nice at
  pub to : U
  pub goes : Path q Nice (q.next at) to 0
  pub related : Related (p.next s) to

-- The target follows the source through states of which it is known that they are fine, and is shown to be nice there.
pub record Follows {S U : Type 0} (p : Automaton S) (q : Automaton U) (Fine : S → Type 0) (Nice : U → Type 0) (Related : S → U → Type 0) : Type 0 where
  pub shows : (s : S) (u : U) → Related s u → q.shown u ≡ p.shown s
  pub quietly : (s : S) (u : U) → Related s u → Fine s → is_over p s ≡ false → Quietly p q Nice Related s u
  pub turning : (s : S) (u : U) → Related s u → Fine s → p.turns s ≡ true → Turning p q Nice Related s u
  pub ended : (s : S) (u : U) → Related s u → Fine s → has_ended p s ≡ true → Nice u
