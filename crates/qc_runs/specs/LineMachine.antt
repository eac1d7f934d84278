-- Machines of lines: data that lines act on, one line after another, with labels that do nothing; and code that answers the
-- lines of other code, line by line.
use Rattle.std.specs.Prelude.{ℕ, suc, ◌≡◌, ◌<◌, ◌≤◌, ◌⊎◌, Bool, true, false, ◌&&◌, not, if◌then◌else◌, is_some, nat_le}
use Rattle.qc_terms.specs.Observation.{Below, Observation}
use Rattle.qc_runs.specs.Automaton.{Automaton}
use Rattle.qc_runs.specs.Simulation.{Path}

-- where a run goes on after a line
pub data Going : Type 0 where
  Onward : Going
  To : (place : ℕ) → Going

pub record LineMachine (D : Type 0) : Type 0 where
  -- what has been put out, and the ending
  pub shown : D → Observation
  -- the line at a place is no label
  pub solid : ℕ → Bool
  -- the data after the line at a place, and where the run goes on
  pub act : ℕ → D → D
  pub goes : ℕ → D → Going

abbrev pub is_done : {D : Type 0} → LineMachine D → D → Bool
is_done m d = is_some (m.shown d).ending

-- Labels do nothing, and no line takes back what was shown.
pub record IsLineMachine {D : Type 0} (m : LineMachine D) : Type 0 where
  pub labels : (k : ℕ) (d : D) → m.solid k ≡ false → (m.act k d ≡ d) × (m.goes k d ≡ Onward)
  pub grows : (k : ℕ) (d : D) → is_done m d ≡ false → Below (m.shown d) (m.shown (m.act k d))

-- the place after the one at k
abbrev pub arrival : (k : ℕ) → Going → ℕ
arrival k Onward = suc k
arrival k (To place) = place

-- Run line by line. A step is a turn where the run goes on at a place that doesn't stand after the present one.
abbrev pub run_of : {D : Type 0} → LineMachine D → Automaton (ℕ × D)
run_of m = record {
  next = λ s. if is_done m s.1 then s else (arrival s.0 (m.goes s.0 s.1), m.act s.0 s.1);
  shown = λ s. m.shown s.1;
  turns = λ s. not (is_done m s.1) && (not (is_done m (m.act s.0 s.1)) && nat_le (arrival s.0 (m.goes s.0 s.1)) s.0);
}

-- ---- lines that are answered by groups of lines

-- A line is answered by a group of lines that begins where the line's group begins. The last line that acts shows what the
-- answered line shows before it acts, and then the run goes on where the next group begins.
pub record GroupAnswers {D E : Type 0} (m : LineMachine D) (n : LineMachine E) (start : ℕ → ℕ) (Nice : ℕ × E → Type 0) (Related : ℕ → D → E → Type 0) (k : ℕ) (d : D) (e : E) : Type 0 where
  pub at : ℕ
  pub last : E
  pub comes : Path (run_of n) Nice (start k, e) (at, last) 0
  pub low : start k ≤ at
  pub high : at < start (suc k)
  pub runs : is_done n last ≡ false
  pub shows : n.shown last ≡ m.shown d
  pub nice : Nice (at, last)
  pub moves : is_done m (m.act k d) ≡ false → arrival at (n.goes at last) ≡ start (arrival k (m.goes k d))
  pub related : Related (arrival k (m.goes k d)) (m.act k d) (n.act at last)

-- A line is answered by no line: it goes onward, and the data are related without a step.
pub record NoLineAnswers {D E : Type 0} (m : LineMachine D) (start : ℕ → ℕ) (Related : ℕ → D → E → Type 0) (k : ℕ) (d : D) (e : E) : Type 0 where
  pub empty : start (suc k) ≡ start k
  pub onward : m.goes k d ≡ Onward
  pub related : Related (suc k) (m.act k d) e

-- Code whose lines are groups, one for each line of other code, of which it is known that its states are fine.
pub record Grouped {D E : Type 0} (m : LineMachine D) (n : LineMachine E) (start : ℕ → ℕ) (Fine : ℕ × D → Type 0) (Nice : ℕ × E → Type 0) (Related : ℕ → D → E → Type 0) : Type 0 where
  pub rises : (j k : ℕ) → j ≤ k → start j ≤ start k
  pub shows : (k : ℕ) (d : D) (e : E) → Related k d e → n.shown e ≡ m.shown d
  pub ended : (k : ℕ) (d : D) (e : E) (place : ℕ) → Related k d e → Fine (k, d) → is_done m d ≡ true → Nice (place, e)
  pub answers : (k : ℕ) (d : D) (e : E) → Related k d e → Fine (k, d) → is_done m d ≡ false →
      GroupAnswers m n start Nice Related k d e ⊎ NoLineAnswers m start Related k d e

-- The target stands at the group of the source's line. Places of runs that are over aren't compared.
pub record AtGroup {D E : Type 0} (m : LineMachine D) (start : ℕ → ℕ) (Related : ℕ → D → E → Type 0) (s : ℕ × D) (u : ℕ × E) : Type 0 where
  pub related : Related s.0 s.1 u.1
  pub place : is_done m s.1 ≡ false → u.0 ≡ start s.0
