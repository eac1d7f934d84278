-- Runs of processes, and their lines.
use Rattle.std.proofs.Common.{◌≡◌, ◌+◌, ◌-◌, ◌≤◌, ℕ, zero, suc, List, [], ◌∷◌, ◌++◌, refl, sym, ap, subst, ◌∙◌, arith, append_assoc, append-nil}
use Rattle.std.specs.Prelude.{Option, None, Some, All, ◌<◌, ◌^◌}
use Rattle.std.proofs.lemmas.List.{map-append}
use Rattle.qc_terms.specs.declared.state.Event.{Event}
use Rattle.qc_terms.specs.declared.state.State.{State}
use Rattle.qc_terms.specs.Effects.{Outcome}
use Rattle.qc_terms.specs.Observation.{Observation, words_of}
use Rattle.qc_terms.specs.Process.{Process, Reached, Reaches, ShowsIn, seen_at}
use Rattle.qc_descr.specs.declared.description.Description.{Description}
use Rattle.qc_descr.specs.Step.{Progress, RunsTo, Steps, StepsFrom}
use Rattle.qc_descr.specs.Loading.{FitsMachine, loaded_state}
use Rattle.qc_descr.specs.Valid.{IsValid}
use Rattle.qc_core.specs.declared.answer.Status.{Status}
use Rattle.qc_core.specs.declared.answer.Status.TheVariants.{Done, NoMemory}
use Rattle.qc_core.specs.Inner.Reading.{StopsToPut}
use Rattle.qc_core.specs.Inner.Running.{IsOver, PutsRun, PutsSetting, PutsStep, PutsWords, StopsStep, StopsWords}
use Rattle.qc_core.specs.Lines.{ending_line, run_lines, word_line, word_lines}
use Rattle.qc_core.specs.Puts.{ArePut, Output}
use Rattle.qc_core.specs.Runs.{Setting, Shows, machine_process}
use Rattle.qc_core.proofs.Putting.{none_of_run, option_same, put_twice, stop_puts, stops_after, stops_before}

-- each state has a step
abbrev pub IsTotal : Process → Type 0
IsTotal p = (s : p.State) → (t : p.State) × (event : Event) × p.Step s t event

-- a state in which the process is over stays as it is
abbrev pub Rests : Process → Type 0
Rests p = (s : p.State) (event : Event) → p.ending s ≡ Some event → p.Step s s event

-- the machine of a description
abbrev pub SomeStep : Type 0
SomeStep = (d : Description) (s : State) → (o : Outcome) × Steps d s o

pub machine_total : SomeStep → (d : Description) → IsTotal (machine_process d)
machine_total some d s = ((some d s).0.state, (some d s).0.event, (some d s).1)

pub machine_rests : (d : Description) → Rests (machine_process d)
machine_rests d s event is = subst (λ e. StepsFrom e d s (record { state = s; event = event })) (sym is) refl

module _ (p : Process) where
  -- what a run of more steps has put out begins with what it had before
  record Further (s : p.State) (steps : ℕ) (r : Reached p) : Type 0 where
    reached : Reached p
    reaches : Reaches p s steps reached
    more : List ℕ
    output : reached.output ≡ r.output ++ more

  further : IsTotal p → (s : p.State) (n k m : ℕ) (r : Reached p) → m ≡ k + n → Reaches p s n r → Further s m r
  further total s n zero m r is reaches =
      let same : n ≡ m = omega (arith, is) in
      record { reached = r; reaches = subst (λ x. Reaches p s x r) same reaches; more = []; output = sym (append-nil r.output) }
  further total s n (suc k) m r is reaches =
      let q : Further s (k + n) r = further total s n k (k + n) r refl reaches in
      let step = total q.reached.state in
      let next : Reached p = record { state = step.0; output = q.reached.output ++ words_of step.1 } in
      let there : Reaches p s (suc (k + n)) next = (q.reached, q.reaches, record { event = step.1; step = step.2; output = refl }) in
      let same : suc (k + n) ≡ m = omega (arith, is) in
      record {
        reached = next;
        reaches = subst (λ x. Reaches p s x next) same there;
        more = q.more ++ words_of step.1;
        output = ap (λ xs. xs ++ words_of step.1) q.output ∙ append_assoc r.output q.more (words_of step.1);
      }

  -- each run shows something
  pub some_seen : IsTotal p → (s : p.State) (n : ℕ) → (seen : Observation) × ShowsIn p s n seen
  some_seen total s n =
      let start : Reached p = record { state = s; output = [] } in
      let far : Further s n start = further total s 0 n n start (omega arith) refl in
      (seen_at p far.reached, record { reached = far.reached; reaches = far.reaches; is = refl })

  -- a step of a run that is over
  record Stays (t : p.State) : Type 0 where
    event : Event
    step : p.Step t t event
    quiet : words_of event ≡ []

  stays_from : Rests p → (t : p.State) (ending : Option Event) → p.ending t ≡ ending → IsOver ending → Stays t
  stays_from rests t None is over = absurd over
  stays_from rests t (Some event) is over = record { event = event; step = rests t event is; quiet = over }

  -- a run that is over stays as it is
  stays : Rests p → (s : p.State) (n k m : ℕ) (r : Reached p) → m ≡ k + n → IsOver (p.ending r.state) → Reaches p s n r → Reaches p s m r
  stays rests s n zero m r is over reaches =
      let same : n ≡ m = omega (arith, is) in
      subst (λ x. Reaches p s x r) same reaches
  stays rests s n (suc k) m r is over reaches =
      let step : Stays r.state = stays_from rests r.state (p.ending r.state) refl over in
      let there : Reaches p s (suc (k + n)) r = (
        r,
        stays rests s n k (k + n) r refl over reaches,
        record {
          event = step.event;
          step = step.step;
          output = sym (ap (λ words. r.output ++ words) step.quiet ∙ append-nil r.output);
        },
      ) in
      let same : suc (k + n) ≡ m = omega (arith, is) in
      subst (λ x. Reaches p s x r) same there

  -- no step, and no line
  pub no_step : (s : p.State) (old : Output) → PutsWords p s s 0 old old
  no_step s old = record { output = []; reaches = refl; lines = option_same old.pieces }

  -- where a run is after one more step
  after_step : (s t u : p.State) (n : ℕ) (old mid : Output) (event : Event) → (words : PutsWords p s t n old mid) → p.Step t u event → Reaches p s (suc n) (record { state = u; output = words.output ++ words_of event })
  after_step s t u n old mid event words step =
      (record { state = t; output = words.output }, words.reaches, record { event = event; step = step; output = refl })

  -- one more step, and its line
  pub step_put : {Stands : Option Event → Type 0} (s t u : p.State) (n : ℕ) (old mid new : Output) → PutsWords p s t n old mid → PutsStep p t u mid new Stands → PutsWords p s u (suc n) old new
  step_put s t u n old mid new words step = record {
    output = words.output ++ words_of step.event;
    reaches = after_step s t u n old mid step.event words step.step;
    lines = subst (λ (ls : List (List ℕ)). ArePut ls old new) (sym (map-append word_line words.output (words_of step.event)))
        (put_twice (word_lines words.output) (word_lines (words_of step.event)) old mid new words.lines step.lines);
  }

  -- the rest of the steps of a run that is over
  pub words_stay : Rests p → (s t : p.State) (n m : ℕ) (old new : Output) → n ≤ m → IsOver (p.ending t) → PutsWords p s t n old new → PutsWords p s t m old new
  words_stay rests s t n m old new within over words = record {
    output = words.output;
    reaches = stays rests s n (m - n) m (record { state = t; output = words.output }) (omega (arith, within)) over words.reaches;
    lines = words.lines;
  }

  -- a step whose line isn't put whole, of a run of more steps
  pub words_stop : IsTotal p → (s t u : p.State) (n m : ℕ) (old mid new : Output) (status : Status) → suc n ≤ m → mid.faults ≡ old.faults → PutsWords p s t n old mid → StopsStep p t u mid new status → StopsWords p s m old new status
  words_stop total s t u n m old mid new status within same words step =
      let here : Reached p = record { state = u; output = words.output ++ words_of step.event } in
      let far : Further s m here = further total s (suc n) (m - suc n) m here (omega (arith, within)) (after_step s t u n old mid step.event words step.step) in
      let lines : word_lines far.reached.output ≡ word_lines words.output ++ (word_lines (words_of step.event) ++ word_lines far.more) =
      ap (λ (xs : List ℕ). word_lines xs) (far.output ∙ append_assoc words.output (words_of step.event) far.more)
      ∙ map-append word_line words.output (words_of step.event ++ far.more)
      ∙ ap (λ ls. word_lines words.output ++ ls) (map-append word_line (words_of step.event) far.more) in
      let stops : StopsToPut (word_lines (words_of step.event) ++ word_lines far.more) mid new status =
      stops_before (word_lines (words_of step.event)) (word_lines far.more) mid new status step.stops in
      record {
        reached = far.reached;
        reaches = far.reaches;
        stops = subst (λ (ls : List (List ℕ)). StopsToPut ls old new status) (sym lines)
            (stops_after (word_lines words.output) (word_lines (words_of step.event) ++ word_lines far.more) old mid new status words.lines same stops);
      }

  -- a run whose words aren't all put
  pub run_stopped : (s : p.State) (steps : ℕ) (old new : Output) (status : Status) → StopsWords p s steps old new status → PutsRun p s steps old new status
  run_stopped s steps old new status words = record {
    seen = seen_at p words.reached;
    shows = record { reached = words.reached; reaches = words.reaches; is = refl };
    puts = stop_puts (run_lines (seen_at p words.reached)) old new status
        (stops_before (word_lines words.reached.output) (ending_line (p.ending words.reached.state) ∷ []) old new status words.stops);
  }

  -- what a run shows whose words are all put
  shows_words : (s t : p.State) (steps : ℕ) (old mid : Output) (words : PutsWords p s t steps old mid) → ShowsIn p s steps (record { output = words.output; ending = p.ending t })
  shows_words s t steps old mid words =
      record { reached = record { state = t; output = words.output }; reaches = words.reaches; is = refl }

  -- a run whose words are put, and its last line
  pub run_done : (s t : p.State) (steps : ℕ) (old mid new : Output) → PutsWords p s t steps old mid → ArePut (ending_line (p.ending t) ∷ []) mid new → PutsRun p s steps old new Done
  run_done s t steps old mid new words put = record {
    seen = record { output = words.output; ending = p.ending t };
    shows = shows_words s t steps old mid words;
    puts = put_twice (word_lines words.output) (ending_line (p.ending t) ∷ []) old mid new words.lines put;
  }

  -- one whose last line isn't put whole
  pub run_unended : (s t : p.State) (steps : ℕ) (old mid new : Output) (status : Status) → mid.faults ≡ old.faults → PutsWords p s t steps old mid → StopsToPut (ending_line (p.ending t) ∷ []) mid new status → PutsRun p s steps old new status
  run_unended s t steps old mid new status same words stops = record {
    seen = record { output = words.output; ending = p.ending t };
    shows = shows_words s t steps old mid words;
    puts = stop_puts (word_lines words.output ++ ending_line (p.ending t) ∷ []) old new status
        (stops_after (word_lines words.output) (ending_line (p.ending t) ∷ []) old mid new status words.lines same stops);
  }

-- what an image's run shows
shows : (s : Setting) (steps : ℕ) (t : State) (seen : Observation) → IsValid s.description → FitsMachine s.description s.image → All (λ word. word < 2 ^ s.description.facts.word) s.input → t ≡ loaded_state s.description s.image s.input → ShowsIn (machine_process s.description) t steps seen → Shows s steps seen
shows s steps t seen valid fits words is shown =
    record { valid = valid; fits = fits; words = words; shows = subst (λ x. ShowsIn (machine_process s.description) x steps seen) is shown }

pub setting_put : (s : Setting) (steps : ℕ) (t : State) (old new : Output) (status : Status) → IsValid s.description → FitsMachine s.description s.image → All (λ word. word < 2 ^ s.description.facts.word) s.input → t ≡ loaded_state s.description s.image s.input → PutsRun (machine_process s.description) t steps old new status → PutsSetting s steps old new status
setting_put s steps t old new status valid fits words is run =
    record { seen = run.seen; shows = shows s steps t run.seen valid fits words is run.shows; puts = run.puts }

-- a run for which memory is wanting before it begins
pub setting_unput : SomeStep → (s : Setting) (steps : ℕ) (old : Output) → IsValid s.description → FitsMachine s.description s.image → All (λ word. word < 2 ^ s.description.facts.word) s.input → PutsSetting s steps old old NoMemory
setting_unput some s steps old valid fits words =
    let start = loaded_state s.description s.image s.input in
    let run = some_seen (machine_process s.description) (machine_total some s.description) start steps in
    record { seen = run.0; shows = shows s steps start run.0 valid fits words refl run.1; puts = none_of_run (word_lines run.0.output) (ending_line run.0.ending) old }

-- The machine's runs as those of a process, and back.
pub runs_reach : (d : Description) (s : State) (n : ℕ) (q : Progress) → RunsTo d s n q → Reaches (machine_process d) s n (record { state = q.state; output = q.output })
runs_reach d s zero q runs = ap (λ (x : Progress). record { state = x.state; output = x.output }) runs
runs_reach d s (suc n) q (before, runs, step) =
    (record { state = before.state; output = before.output }, runs_reach d s n before runs, record { event = step.event; step = step.step; output = step.output })

pub reach_runs : (d : Description) (s : State) (n : ℕ) (r : Reached (machine_process d)) → Reaches (machine_process d) s n r → RunsTo d s n (record { state = r.state; output = r.output })
reach_runs d s zero r reaches = ap (λ (x : Reached (machine_process d)). record { state = x.state; output = x.output }) reaches
reach_runs d s (suc n) r (before, reaches, step) =
    (record { state = before.state; output = before.output }, reach_runs d s n before reaches, record { event = step.event; step = step.step; output = step.output })
