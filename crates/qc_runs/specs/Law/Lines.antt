-- The runs of a machine of lines are runs of an automaton.
use Rattle.std.proofs.Common.{min, ◌≡◌, ◌∙◌, ◌<◌, ◌≤◌, ◌⊎◌, ◌&&◌, ◌||◌, inl, inr, ℕ, suc, Bool, true, false, not, refl, ap, sym, subst, arith, if◌then◌else◌, nat_le}
use Rattle.std.proofs.lemmas.Bool.{cases_Bool, cases_lt, leb-false, lt-leb, or_parts}
use Rattle.qc_terms.specs.Observation.{Below}
use Rattle.qc_terms.specs.Law.Runs.{below_itself}
use Rattle.qc_runs.specs.Automaton.{IsAutomaton, Rises, has_ended, is_over}
use Rattle.qc_runs.specs.LineMachine.{Going, IsLineMachine, LineMachine, Onward, arrival, is_done, run_of}

-- the step of a run that isn't over
pub step_of_running : {D : Type 0} (m : LineMachine D) (k : ℕ) (d : D) → is_done m d ≡ false →
    (run_of m).next (k, d) ≡ (arrival k (m.goes k d), m.act k d)
step_of_running m k d running = ap (λ b. if b then (k, d) else (arrival k (m.goes k d), m.act k d)) running

pub is_automaton : {D : Type 0} (m : LineMachine D) → IsLineMachine m → IsAutomaton (run_of m)
is_automaton m is = record {
  stays = λ s done. ap (λ b. if b then s else (arrival s.0 (m.goes s.0 s.1), m.act s.0 s.1)) done;
  ends = λ s done.
      ap (λ b. not b && (not (is_done m (m.act s.0 s.1)) && nat_le (arrival s.0 (m.goes s.0 s.1)) s.0)) done;
  grows = λ s. grows (is_done m s.1) s refl;
}
  where
    grows : (done : Bool) (s : ℕ × _) → is_done m s.1 ≡ done →
        Below (m.shown s.1) (m.shown (if done then s else (arrival s.0 (m.goes s.0 s.1), m.act s.0 s.1)).1)
    grows true s over = below_itself (m.shown s.1)
    grows false s on = is.grows s.0 s.1 on

clash : true ≡ false → ⊥
clash e = cc

-- a line that goes onward is no turn
pub onward_is_none : (k : ℕ) (going : Going) (done next : Bool) → going ≡ Onward →
    (not done && (not next && nat_le (arrival k going) k)) ≡ true → ⊥
onward_is_none k going true next onward turns = clash (sym turns)
onward_is_none k going false true onward turns = clash (sym turns)
onward_is_none k going false false onward turns =
    let back : nat_le (suc k) k ≡ true = sym (ap (λ g. nat_le (arrival k g) k) onward) ∙ turns in
    clash (sym back ∙ lt-leb (suc k) k (omega arith))

-- a state that turns hasn't ended
pub turning_runs : (done next back : Bool) → (not done && (not next && back)) ≡ true → done ≡ false
turning_runs true next back turns = absurd (clash (sym turns))
turning_runs false next back turns = refl

-- ---- turns come in time

-- where there is no line behind the last one, and a step from there ends the run
pub record EndsBehind {D : Type 0} (m : LineMachine D) (count : ℕ) : Type 0 where
  pub ends : (k : ℕ) (d : D) → count ≤ k → is_done m (m.act k d) ≡ true

-- the place of a run, as far as there are lines
abbrev pub place_rank : {D : Type 0} → ℕ → ℕ × D → ℕ
place_rank count s = min s.0 count

-- a run that goes on without a turn goes to a later place
later_place : (done next : Bool) (to place : ℕ) → done ≡ false → next ≡ false →
    (not done && (not next && nat_le to place)) ≡ false → place < to
later_place done next to place running on quiet = leb-false to place cc

pub lines_rise : {D : Type 0} (m : LineMachine D) (count : ℕ) → EndsBehind m count → Rises (run_of m) (suc count) (place_rank count)
lines_rise m count behind = record {
  bound = λ s. omega arith;
  rises = λ s on.
      let parts = or_parts (is_done m s.1) ((run_of m).turns s) on in
      let after = step_of_running m s.0 s.1 parts.0 in
      elim (cases_lt s.0 count) [
        | inl before ↦ elim (cases_Bool (is_done m (m.act s.0 s.1))) [
          | inl done ↦ inl (ap (has_ended (run_of m)) after ∙ done)
          | inr running ↦
              let further = later_place (is_done m s.1) (is_done m (m.act s.0 s.1)) (arrival s.0 (m.goes s.0 s.1)) s.0 parts.0 running parts.1 in
              inr (subst (λ t. place_rank count s < place_rank count t) (sym after) (higher s.0 (arrival s.0 (m.goes s.0 s.1)) count further before))
        ]
        | inr last ↦ inl (ap (has_ended (run_of m)) after ∙ behind.ends s.0 s.1 last)
      ];
}
  where
    higher : (place to count : ℕ) → place < to → place < count → min place count < min to count
    higher place to count further before = omega (arith, further, before)
