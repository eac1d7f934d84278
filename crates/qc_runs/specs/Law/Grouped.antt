-- Code whose lines are groups follows the code whose lines they answer.
use Rattle.std.proofs.Common.{◌≡◌, ◌∙◌, ◌<◌, ◌≤◌, ◌⊎◌, ◌&&◌, ℕ, suc, Bool, true, false, not, inl, inr, refl, ap, sym, subst, arith, is_some, nat_le}
use Rattle.std.proofs.lemmas.Bool.{le-leb, leb-false, leb-true, lt-leb, or_parts}
use Rattle.qc_runs.specs.Automaton.{as_number}
use Rattle.qc_runs.specs.LineMachine.{AtGroup, GroupAnswers, Grouped, LineMachine, NoLineAnswers, arrival, is_done, run_of}
use Rattle.qc_runs.specs.Simulation.{Follows, Path, Quietly, Turning}
use Rattle.qc_runs.specs.Law.Followed.{no_path, one_step, path-more}
use Rattle.qc_runs.specs.Law.Lines.{onward_is_none, step_of_running, turning_runs}

-- a group's place is before a group's front exactly where the answered line is before that line
same_order : (start : ℕ → ℕ) → ((j k : ℕ) → j ≤ k → start j ≤ start k) → (j k at : ℕ) → start k ≤ at → at < start (suc k) →
    nat_le (start j) at ≡ nat_le j k
same_order start rises j k at low high = go (nat_le j k) refl
  where
    go : (b : Bool) → nat_le j k ≡ b → nat_le (start j) at ≡ b
    go true least = le-leb (start j) at (omega (arith, low, rises j k (leb-true j k least)))
    go false more = lt-leb (start j) at (omega (arith, high, rises (suc k) j (omega (arith, leb-false j k more))))

-- turns as three tests, of which the last counts only where the second is false
same_turn : (done other next after back before : Bool) → done ≡ false → other ≡ false → after ≡ next → (next ≡ false → before ≡ back) →
    (not other && (not after && before)) ≡ (not done && (not next && back))
same_turn done other true after back before running runs same backward = cc
same_turn done other false after back before running runs same backward = let equal = backward refl in cc

-- the answered line and the last line of its group turn, or neither does
turns_alike : {D E : Type 0} (m : LineMachine D) (n : LineMachine E) (start : ℕ → ℕ) (Fine : ℕ × D → Type 0) (Nice : ℕ × E → Type 0)
    (Related : ℕ → D → E → Type 0) → Grouped m n start Fine Nice Related → (k : ℕ) (d : D) (e : E) → is_done m d ≡ false →
    (answer : GroupAnswers m n start Nice Related k d e) → (run_of n).turns (answer.at, answer.last) ≡ (run_of m).turns (k, d)
turns_alike m n start Fine Nice Related grouped k d e running answer =
    let place = arrival k (m.goes k d) in
    let arrives = arrival answer.at (n.goes answer.at answer.last) in
    same_turn (is_done m d) (is_done n answer.last) (is_done m (m.act k d)) (is_done n (n.act answer.at answer.last))
    (nat_le place k) (nat_le arrives answer.at) running answer.runs
    (ap (λ seen. is_some seen.ending) (grouped.shows place (m.act k d) (n.act answer.at answer.last) answer.related))
    (λ on. ap (λ i. nat_le i answer.at) (answer.moves on) ∙ same_order start grouped.rises place k answer.at answer.low answer.high)

-- the step of the answered line and the last step of its group lead to related states
goes_on : {D E : Type 0} (m : LineMachine D) (n : LineMachine E) (start : ℕ → ℕ) (Nice : ℕ × E → Type 0) (Related : ℕ → D → E → Type 0)
    (k : ℕ) (d : D) (e : E) → is_done m d ≡ false → (answer : GroupAnswers m n start Nice Related k d e) →
    AtGroup m start Related ((run_of m).next (k, d)) ((run_of n).next (answer.at, answer.last))
goes_on m n start Nice Related k d e running answer =
    subst (λ s. AtGroup m start Related s ((run_of n).next (answer.at, answer.last)))
    (sym (step_of_running m k d running))
    (subst (AtGroup m start Related (arrival k (m.goes k d), m.act k d))
    (sym (step_of_running n answer.at answer.last answer.runs))
    (record { related = answer.related; place = answer.moves }))

-- the group's steps, from where the target stands
from_start : {E : Type 0} (n : LineMachine E) (Nice : ℕ × E → Type 0) (place start : ℕ) (e : E) (to : ℕ × E) → place ≡ start →
    Path (run_of n) Nice (start, e) to 0 → Path (run_of n) Nice (place, e) to 0
from_start n Nice place start e to same path = subst (λ p. Path (run_of n) Nice (p, e) to 0) (sym same) path

answer_quietly : {D E : Type 0} (m : LineMachine D) (n : LineMachine E) (start : ℕ → ℕ) (Fine : ℕ × D → Type 0) (Nice : ℕ × E → Type 0)
    (Related : ℕ → D → E → Type 0) → Grouped m n start Fine Nice Related → (k : ℕ) (d : D) (place : ℕ) (e : E) → place ≡ start k →
    is_done m d ≡ false → (run_of m).turns (k, d) ≡ false →
    GroupAnswers m n start Nice Related k d e ⊎ NoLineAnswers m start Related k d e →
    Quietly (run_of m) (run_of n) Nice (AtGroup m start Related) (k, d) (place, e)
answer_quietly m n start Fine Nice Related grouped k d place e same running quiet (inl answer) =
    let last : ℕ × _ = (answer.at, answer.last) in
    let still = turns_alike m n start Fine Nice Related grouped k d e running answer ∙ quiet in
    record {
      to = (run_of n).next last;
      quiet = path-more (run_of n) Nice (place, e) last ((run_of n).next last) 0 0
          (from_start n Nice place (start k) e last same answer.comes)
          (subst (λ b. Path (run_of n) Nice last ((run_of n).next last) (as_number b)) still
          (one_step (run_of n) Nice last answer.nice));
      related = goes_on m n start Nice Related k d e running answer;
    }
answer_quietly m n start Fine Nice Related grouped k d place e same running quiet (inr answer) = record {
  to = (place, e);
  quiet = no_path (run_of n) Nice (place, e);
  related = subst (λ s. AtGroup m start Related s (place, e))
      (sym (step_of_running m k d running ∙ ap (λ going. (arrival k going, m.act k d)) answer.onward))
      (record { related = answer.related; place = λ on. same ∙ sym answer.empty });
}

answer_turning : {D E : Type 0} (m : LineMachine D) (n : LineMachine E) (start : ℕ → ℕ) (Fine : ℕ × D → Type 0) (Nice : ℕ × E → Type 0)
    (Related : ℕ → D → E → Type 0) → Grouped m n start Fine Nice Related → (k : ℕ) (d : D) (place : ℕ) (e : E) → place ≡ start k →
    is_done m d ≡ false → (run_of m).turns (k, d) ≡ true →
    GroupAnswers m n start Nice Related k d e ⊎ NoLineAnswers m start Related k d e →
    Turning (run_of m) (run_of n) Nice (AtGroup m start Related) (k, d) (place, e)
answer_turning m n start Fine Nice Related grouped k d place e same running turns (inl answer) =
    let last : ℕ × _ = (answer.at, answer.last) in
    record {
      at = last;
      comes = from_start n Nice place (start k) e last same answer.comes;
      shows = answer.shows;
      turns = turns_alike m n start Fine Nice Related grouped k d e running answer ∙ turns;
      nice = answer.nice;
      to = (run_of n).next last;
      goes = no_path (run_of n) Nice ((run_of n).next last);
      related = goes_on m n start Nice Related k d e running answer;
    }
answer_turning m n start Fine Nice Related grouped k d place e same running turns (inr answer) =
    absurd (onward_is_none k (m.goes k d) (is_done m d) (is_done m (m.act k d)) answer.onward turns)

pub grouped_follows : {D E : Type 0} (m : LineMachine D) (n : LineMachine E) (start : ℕ → ℕ) (Fine : ℕ × D → Type 0) (Nice : ℕ × E → Type 0)
    (Related : ℕ → D → E → Type 0) → Grouped m n start Fine Nice Related →
    Follows (run_of m) (run_of n) Fine Nice (AtGroup m start Related)
grouped_follows m n start Fine Nice Related grouped = record {
  shows = λ s u at. grouped.shows s.0 s.1 u.1 at.related;
  quietly = λ s u at fine on.
      let parts = or_parts (is_done m s.1) ((run_of m).turns s) on in
      answer_quietly m n start Fine Nice Related grouped s.0 s.1 u.0 u.1 (at.place parts.0) parts.0 parts.1
      (grouped.answers s.0 s.1 u.1 at.related fine parts.0);
  turning = λ s u at fine turns.
      let running = turning_runs (is_done m s.1) (is_done m (m.act s.0 s.1)) (nat_le (arrival s.0 (m.goes s.0 s.1)) s.0) turns in
      answer_turning m n start Fine Nice Related grouped s.0 s.1 u.0 u.1 (at.place running) running turns
      (grouped.answers s.0 s.1 u.1 at.related fine running);
  ended = λ s u at fine done. grouped.ended s.0 s.1 u.1 u.0 at.related fine done;
}
