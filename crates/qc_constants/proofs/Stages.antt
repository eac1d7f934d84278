-- The run of a code, stage by stage, and what it shows in the end.
use Rattle.std.proofs.Common.{◌≡◌, ◌≤◌, ℕ, zero, suc, ◌-◌, List, [], ◌∷◌, ◌++◌, map, length, Option, None, Some, refl, ap, sym, arith, append-nil}
use Rattle.qc_terms.specs.declared.state.Event.{Event}
use Rattle.qc_terms.specs.declared.state.Event.TheVariants.{Ended}
use Rattle.qc_terms.specs.Observation.{Observation, Below}
use Rattle.qc_terms.specs.Law.Runs.{Finishes, steps_of, shows, below_more_output, below_itself}
use Rattle.qc_constants.specs.ConstantProgram.{Statement, Output, Return, ProgramState, program_step, program_state}
use Rattle.qc_constants.specs.declared.program.ConstantProgram.{ConstantProgram}
use Rattle.qc_constants.proofs.Codes.{Code, Load, Put, Halt, code_for, instructs_of}

-- what statements show in the end, after an output
abbrev pub shown_by : List Statement → List ℕ → Observation
shown_by [] output = shows output None
shown_by (Output word ∷ rest) output = shown_by rest (output ++ word ∷ [])
shown_by (Return word ∷ rest) output = shows output (Some (Ended word))

-- what a state shows in the end: one that has ended stays
abbrev final_from : Option Event → ProgramState → Observation
final_from None s = shown_by s.rest s.seen.output
final_from (Some event) s = s.seen

abbrev pub program_final : ProgramState → Observation
program_final s = final_from s.seen.ending s

-- how many statements are left to do
abbrev size_from : Option Event → ProgramState → ℕ
size_from None s = length s.rest
size_from (Some event) s = 0

abbrev pub program_size : ProgramState → ℕ
program_size s = size_from s.seen.ending s

abbrev program_at : List Statement → List ℕ → Option Event → ProgramState
program_at rest output ending = record { rest = rest; seen = shows output ending }

program_keeps : (rest : List Statement) (output : List ℕ) (e : Option Event) → program_final (program_step (program_at rest output e)) ≡ program_final (program_at rest output e)
program_keeps [] output None = refl
program_keeps (Output word ∷ rest) output None = refl
program_keeps (Return word ∷ rest) output None = refl
program_keeps rest output (Some event) = refl

statements_below : (rest : List Statement) (output : List ℕ) → Below (shows output None) (shown_by rest output)
statements_below [] output = below_itself _
statements_below (Output word ∷ rest) output = below_more_output _ word output (statements_below rest (output ++ word ∷ []))
statements_below (Return word ∷ rest) output = record { output = ([], sym (append-nil output)); ending = tt }

program_below : (rest : List Statement) (output : List ℕ) (e : Option Event) → Below (shows output e) (program_final (program_at rest output e))
program_below rest output None = statements_below rest output
program_below rest output (Some event) = below_itself _

program_falls : (rest : List Statement) (output : List ℕ) (e : Option Event) → program_size (program_step (program_at rest output e)) ≤ program_size (program_at rest output e) - 1
program_falls [] output None = omega arith
program_falls (Output word ∷ rest) output None = omega arith
program_falls (Return word ∷ rest) output None = omega arith
program_falls rest output (Some event) = omega arith

program_ends : (rest : List Statement) (output : List ℕ) (e : Option Event) → program_size (program_at rest output e) ≡ 0 → shows output e ≡ program_final (program_at rest output e)
program_ends [] output None z = refl
program_ends (statement ∷ rest) output None z = absurd (omega arith)
program_ends rest output (Some event) z = refl

pub program_finishes : Finishes program_step (λ s. s.seen) program_final program_size
program_finishes = record {
  keeps = λ s. program_keeps s.rest s.seen.output s.seen.ending;
  below = λ s. program_below s.rest s.seen.output s.seen.ending;
  falls = λ s. program_falls s.rest s.seen.output s.seen.ending;
  ends = λ s. program_ends s.rest s.seen.output s.seen.ending;
}

-- the state of a program's run is that after so many steps
pub program_state_is : (p : ConstantProgram) (n : ℕ) → program_state p n ≡ steps_of program_step (program_state p 0) n
program_state_is p zero = refl
program_state_is p (suc n) = ap program_step (program_state_is p n)

-- a stage of a code's run: the code that is left, the word in cell 0 and the output so far, or the end
pub data Stage : Type 0 where
  Running : (code : Code) (cell : ℕ) (output : List ℕ) → Stage
  Done : (word : ℕ) (output : List ℕ) → Stage

-- the stage after one instruction; the end stays
abbrev pub next_stage : Stage → Stage
next_stage (Running (Load word rest) cell output) = Running rest word output
next_stage (Running (Put rest) cell output) = Running rest cell (output ++ cell ∷ [])
next_stage (Running Halt cell output) = Done cell output
next_stage (Done word output) = Done word output

abbrev pub stage_shows : Stage → Observation
stage_shows (Running code cell output) = shows output None
stage_shows (Done word output) = shows output (Some (Ended word))

-- what the rest of the code shows in the end
abbrev pub code_shows : Code → ℕ → List ℕ → Observation
code_shows (Load word rest) cell output = code_shows rest word output
code_shows (Put rest) cell output = code_shows rest cell (output ++ cell ∷ [])
code_shows Halt cell output = shows output (Some (Ended cell))

abbrev pub stage_final : Stage → Observation
stage_final (Running code cell output) = code_shows code cell output
stage_final (Done word output) = shows output (Some (Ended word))

abbrev pub stage_size : Stage → ℕ
stage_size (Running code cell output) = length (instructs_of code)
stage_size (Done word output) = 0

stage_keeps : (a : Stage) → stage_final (next_stage a) ≡ stage_final a
stage_keeps (Running (Load word rest) cell output) = refl
stage_keeps (Running (Put rest) cell output) = refl
stage_keeps (Running Halt cell output) = refl
stage_keeps (Done word output) = refl

code_below : (code : Code) (cell : ℕ) (output : List ℕ) → Below (shows output None) (code_shows code cell output)
code_below (Load word rest) cell output = code_below rest word output
code_below (Put rest) cell output = below_more_output _ cell output (code_below rest cell (output ++ cell ∷ []))
code_below Halt cell output = record { output = ([], sym (append-nil output)); ending = tt }

stage_below : (a : Stage) → Below (stage_shows a) (stage_final a)
stage_below (Running code cell output) = code_below code cell output
stage_below (Done word output) = below_itself (shows output (Some (Ended word)))

stage_falls : (a : Stage) → stage_size (next_stage a) ≤ stage_size a - 1
stage_falls (Running (Load word rest) cell output) = omega arith
stage_falls (Running (Put rest) cell output) = omega arith
stage_falls (Running Halt cell output) = omega arith
stage_falls (Done word output) = omega arith

stage_ends : (a : Stage) → stage_size a ≡ 0 → stage_shows a ≡ stage_final a
stage_ends (Running (Load word rest) cell output) e = absurd (omega arith)
stage_ends (Running (Put rest) cell output) e = absurd (omega arith)
stage_ends (Running Halt cell output) e = absurd (omega arith)
stage_ends (Done word output) e = refl

pub stage_finishes : Finishes next_stage stage_shows stage_final stage_size
stage_finishes = record { keeps = stage_keeps; below = stage_below; falls = stage_falls; ends = stage_ends }

-- the code of a program shows in the end what the program does
pub code_shows_program : (words : List ℕ) (returned cell : ℕ) (output : List ℕ) → code_shows (code_for words returned) cell output ≡ shown_by (map Output words ++ Return returned ∷ []) output
code_shows_program [] returned cell output = refl
code_shows_program (word ∷ words) returned cell output = code_shows_program words returned word (output ++ word ∷ [])
