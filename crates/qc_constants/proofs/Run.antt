-- The run of a machine on the code of a program.
use Rattle.std.proofs.Common.{◌≡◌, ◌≤◌, ℕ, zero, suc, ◌+◌, ◌*◌, List, [], ◌∷◌, ◌++◌, drop, length, None, Some, refl, ap, ap₂, sym, subst, ◌∙◌, arith, append_assoc, append-nil, drop-drop, lit<, lt_of_le_of_lt}
use Rattle.std.proofs.Math.Seq.{drop-append_seam}
use Rattle.std.specs.List.{flat_map}
use Rattle.qc_terms.specs.declared.state.Event.TheVariants.{Ended}
use Rattle.qc_terms.specs.declared.state.State.{State}
use Rattle.qc_terms.specs.Effects.{Outcome}
use Rattle.qc_terms.specs.Observation.{words_of}
use Rattle.qc_descr.specs.Step.{Advances, OneInstance, Progress, RunsTo, StepsFrom, observation_of}
use Rattle.qc_descr.specs.Encoding.{instance_bytes}
use Rattle.qc_descr.specs.Valid.{IsValid}
use Rattle.qc_descr.specs.declared.description.Description.{Description}
use Rattle.qc_constants.specs.Constants.{HasConstants}
use Rattle.qc_constants.proofs.Codes.{Code, Load, Put, Halt, HasWords, first_of, first_length, first_stands, instructs_of}
use Rattle.qc_constants.proofs.Ready.{IsReady, first_outcome, ready_steps, ready_steps_so, outcome_load, outcome_put, outcome_halt}
use Rattle.qc_terms.specs.Law.Runs.{steps_of}
use Rattle.qc_constants.proofs.Stages.{Stage, Running, Done, next_stage, stage_shows}

-- a machine that goes on, with this code left, this word in cell 0 and this output
pub record IsRunning (d : Description) (left : Code) (cell : ℕ) (shown : List ℕ) (p : Progress) : Type 0 where
  pub words : HasWords left
  pub facts : p.state.facts ≡ d.facts
  pub ending : p.state.ending ≡ None
  pub others : List ℕ
  pub spaces : List (List ℕ)
  pub cells : p.state.cells ≡ (cell ∷ others) ∷ spaces
  pub more : List ℕ
  pub code : drop p.state.pc p.state.memory ≡ flat_map (instance_bytes d 0) (instructs_of left) ++ more
  pub room : p.state.pc + 8 * length (instructs_of left) ≤ 16016
  pub output : p.output ≡ shown

-- a machine that has ended with this word and this output
pub record HasEnded (word : ℕ) (shown : List ℕ) (p : Progress) : Type 0 where
  pub ending : p.state.ending ≡ Some (Ended word)
  pub output : p.output ≡ shown

-- a machine at a stage
abbrev pub IsAt : Description → Stage → Progress → Type 0
IsAt d (Running code cell output) p = IsRunning d code cell output p
IsAt d (Done word output) p = HasEnded word output p

-- what follows 8 bytes
past_eight : (bytes more : List ℕ) → length bytes ≡ 8 → drop 8 (bytes ++ more) ≡ more
past_eight bytes more e = subst (λ n. drop n (bytes ++ more) ≡ more) e (drop-append_seam bytes more)

-- there is a next instruction
some_instruction : (c : Code) → 1 ≤ length (instructs_of c)
some_instruction (Load word rest) = omega arith
some_instruction (Put rest) = omega arith
some_instruction Halt = omega arith

abbrev progress_of : State → List ℕ → Progress
progress_of s output = record { state = s; output = output }

-- the progress after an outcome
abbrev with_outcome : Progress → Outcome → Progress
with_outcome p o = progress_of o.state (p.output ++ words_of o.event)

module _ (d : Description) (valid : IsValid d) (h : HasConstants d) where
  -- what is left of the code after its first instruction
  next_code : (c rest : Code) (at : ℕ) (memory more : List ℕ) → instructs_of c ≡ first_of c ∷ instructs_of rest → drop at memory ≡ flat_map (instance_bytes d 0) (instructs_of c) ++ more → drop (at + 8) memory ≡ flat_map (instance_bytes d 0) (instructs_of rest) ++ more
  next_code c rest at memory more is e =
      let bytes = instance_bytes d 0 (first_of c) in
      let left = flat_map (instance_bytes d 0) (instructs_of rest) in
      let split : drop at memory ≡ bytes ++ (left ++ more) =
      e ∙ ap (λ is. flat_map (instance_bytes d 0) is ++ more) is ∙ append_assoc bytes left more in
      sym (drop-drop 8 at memory) ∙ ap (drop 8) split ∙ past_eight bytes (left ++ more) (first_length d valid h c)

  -- a machine that runs is ready for its next instruction
  is_ready : (c : Code) (cell : ℕ) (output : List ℕ) (p : Progress) → IsRunning d c cell output p → IsReady d c p.state
  is_ready c cell output p r =
      let small : p.state.pc + 8 ≤ 16016 = omega (arith, r.room, some_instruction c) in
      record {
        facts = r.facts;
        ending = r.ending;
        stands = first_stands d valid h c p.state.memory p.state.pc r.more r.words r.code;
        room = lt_of_le_of_lt small (lit< tt);
      }

  -- after const there is its word in cell 0
  after_load : (word cell : ℕ) (rest : Code) (output : List ℕ) (p : Progress) → IsRunning d (Load word rest) cell output p → IsRunning d rest word output (with_outcome p (first_outcome (Load word rest) p.state))
  after_load word cell rest output p r =
      subst (λ o. IsRunning d rest word output (with_outcome p o)) (sym (outcome_load word cell r.others r.spaces rest p.state (ap (λ f. f.zero) r.facts ∙ h.no_zero_cell) r.cells)) (record {
        words = r.words.1;
        facts = r.facts;
        ending = r.ending;
        others = r.others;
        spaces = r.spaces;
        cells = refl;
        more = r.more;
        code = next_code (Load word rest) rest p.state.pc p.state.memory r.more refl r.code;
        room = omega (arith, r.room);
        output = append-nil _ ∙ r.output;
      })

  -- after op_out the word of cell 0 was put out
  after_put : (cell : ℕ) (rest : Code) (output : List ℕ) (p : Progress) → IsRunning d (Put rest) cell output p → IsRunning d rest cell (output ++ cell ∷ []) (with_outcome p (first_outcome (Put rest) p.state))
  after_put cell rest output p r =
      subst (λ o. IsRunning d rest cell (output ++ cell ∷ []) (with_outcome p o)) (sym (outcome_put cell r.others r.spaces rest p.state (ap (λ f. f.zero) r.facts ∙ h.no_zero_cell) r.cells)) (record {
        words = r.words;
        facts = r.facts;
        ending = r.ending;
        others = r.others;
        spaces = r.spaces;
        cells = r.cells;
        more = r.more;
        code = next_code (Put rest) rest p.state.pc p.state.memory r.more refl r.code;
        room = omega (arith, r.room);
        output = ap (λ xs. xs ++ cell ∷ []) r.output;
      })

  -- after op_halt the machine has ended with the word of cell 0
  after_halt : (cell : ℕ) (output : List ℕ) (p : Progress) → IsRunning d Halt cell output p → HasEnded cell output (with_outcome p (first_outcome Halt p.state))
  after_halt cell output p r =
      subst (λ o. HasEnded cell output (with_outcome p o)) (sym (outcome_halt cell r.others r.spaces p.state (ap (λ f. f.zero) r.facts ∙ h.no_zero_cell) r.cells)) (record {
        ending = refl;
        output = append-nil _ ∙ r.output;
      })

  after_first : (c : Code) (cell : ℕ) (output : List ℕ) (p : Progress) → IsRunning d c cell output p → IsAt d (next_stage (Running c cell output)) (with_outcome p (first_outcome c p.state))
  after_first (Load word rest) cell output p r = after_load word cell rest output p r
  after_first (Put rest) cell output p r = after_put cell rest output p r
  after_first Halt cell output p r = after_halt cell output p r

  -- a step of the machine goes to the next stage
  advance : OneInstance → (a : Stage) (p q : Progress) → IsAt d a p → Advances d p q → IsAt d (next_stage a) q
  advance one (Running c cell output) p q r step =
      let is : record { state = q.state; event = step.event } ≡ first_outcome c p.state = ready_steps_so d valid h one c p.state (is_ready c cell output p r) _ step.step in
      let put : q.output ≡ p.output ++ words_of (first_outcome c p.state).event = step.output ∙ ap (λ o. p.output ++ words_of o.event) is in
      let same : with_outcome p (first_outcome c p.state) ≡ q = ap₂ progress_of (sym (ap (λ o. o.state) is)) (sym put) in
      subst (IsAt d (next_stage (Running c cell output))) same (after_first c cell output p r)
  advance one (Done word output) p q r step =
      let is : record { state = q.state; event = step.event } ≡ record { state = p.state; event = Ended word } = subst (λ e. StepsFrom e d p.state (record { state = q.state; event = step.event })) r.ending step.step in
      record {
        ending = ap (λ o. o.state.ending) is ∙ r.ending;
        output = step.output ∙ ap (λ o. p.output ++ words_of o.event) is ∙ append-nil _ ∙ r.output;
      }

  -- and there is one
  can_advance : (a : Stage) (p : Progress) → IsAt d a p → (q : Progress) × Advances d p q
  can_advance (Running c cell output) p r = (
    with_outcome p (first_outcome c p.state),
    record {
      event = (first_outcome c p.state).event;
      step = ready_steps d valid h c p.state (is_ready c cell output p r);
      output = refl;
    },
  )
  can_advance (Done word output) p r = (
    with_outcome p (record { state = p.state; event = Ended word }),
    record {
      event = Ended word;
      step = subst (λ e. StepsFrom e d p.state (record { state = p.state; event = Ended word })) (sym r.ending) refl;
      output = refl;
    },
  )

  -- the run from a state that is at a stage
  pub run_is_at : OneInstance → (a : Stage) (s : State) (n : ℕ) (p : Progress) → IsAt d a (record { state = s; output = [] }) → RunsTo d s n p → IsAt d (steps_of next_stage a n) p
  run_is_at one a s zero p start runs = subst (IsAt d a) (sym runs) start
  run_is_at one a s (suc n) p start (q, before, step) = advance one _ q p (run_is_at one a s n q start before) step

  -- and there is such a run
  pub can_run : OneInstance → (a : Stage) (s : State) (n : ℕ) → IsAt d a (record { state = s; output = [] }) → (p : Progress) × RunsTo d s n p
  can_run one a s zero start = (_, refl)
  can_run one a s (suc n) start =
      let before = can_run one a s n start in
      let next = can_advance (steps_of next_stage a n) before.0 (run_is_at one a s n before.0 start before.1) in
      (next.0, (before.0, before.1, next.1))

-- what is seen at a stage
pub seen_at : (d : Description) (a : Stage) (p : Progress) → IsAt d a p → observation_of p ≡ stage_shows a
seen_at d (Running c cell output) p r = cc (r.output, r.ending)
seen_at d (Done word output) p r = cc (r.output, r.ending)
