-- The image of a program of constants, run on a machine, shows what the program shows.
use Rattle.std.proofs.Common.{◌≡◌, ◌<◌, ◌≤◌, ℕ, zero, suc, ◌+◌, ◌*◌, List, [], ◌∷◌, ◌++◌, map, length, length-append, refl, ap, sym, subst, subst₂, ◌∙◌, arith, replicate}
use Rattle.std.specs.Prelude.{slice_index}
use Rattle.std.specs.List.{flat_map}
use Rattle.std.proofs.lemmas.List.{length-map}
use Rattle.qc_terms.specs.declared.state.State.{State}
use Rattle.qc_terms.specs.Observation.{Observation, Below}
use Rattle.qc_terms.specs.declared.image.Image.{Image}
use Rattle.qc_descr.specs.declared.description.Description.{Description}
use Rattle.qc_descr.specs.Description.{counts_of}
use Rattle.qc_descr.specs.Loading.{loaded_state, loaded_memory}
use Rattle.qc_descr.specs.Step.{OneInstance, Progress, RunsTo, observation_of}
use Rattle.qc_constants.specs.declared.program.ConstantProgram.{ConstantProgram}
use Rattle.qc_constants.specs.Agreement.{Agrees, AgreesOn}
use Rattle.qc_constants.specs.Code.{image_of}
use Rattle.qc_descr.specs.Encoding.{DecodesInto, code_bytes, instance_bytes}
use Rattle.qc_constants.specs.ConstantProgram.{IsConstantProgram, Output, Return, program_shows, program_state, statements_of, weight_of}
use Rattle.qc_descr.specs.Valid.{IsValid}
use Rattle.qc_constants.specs.Constants.{HasConstants}
use Rattle.qc_constants.proofs.Codes.{Code, code_for, code_decodes, code_has_words, code_length, code_placed, instructs_are, instructs_of, cell_there, HasWords}
use Rattle.qc_constants.proofs.Run.{IsRunning, can_run, run_is_at, seen_at}
use Rattle.qc_terms.specs.Law.Runs.{steps_of, steps_below, steps_end}
use Rattle.qc_constants.proofs.Stages.{Stage, Running, next_stage, stage_shows, stage_finishes, program_finishes, program_state_is, code_shows_program, shown_by}

abbrev pub code_of : ConstantProgram → Code
code_of p = code_for p.outputs p.returned

-- the state and the stage in which the run begins
abbrev pub start_of : Description → ConstantProgram → List ℕ → State
start_of d p input = loaded_state d (image_of d p) input

abbrev pub first_stage : ConstantProgram → Stage
first_stage p = Running (code_of p) 0 []

-- what the program shows in the end
abbrev pub last_shown : ConstantProgram → Observation
last_shown p = shown_by (statements_of p) []

has_words : (p : ConstantProgram) → IsConstantProgram p → HasWords (code_of p)
has_words p h = code_has_words p.outputs p.returned h.outputs h.returned

-- the memory begins with the code
code_first : (d : Description) (image : Image) → (more : List ℕ) × (loaded_memory d image ≡ image.code ++ more)
code_first d image = (_, refl)

-- the cells with which a machine begins, where the first space has some
first_cells : (counts : List ℕ) → 0 < slice_index counts 0 → (others : List ℕ) × (spaces : List (List ℕ)) × (map (λ count. replicate count 0) counts ≡ (0 ∷ others) ∷ spaces)
first_cells [] some = absurd (omega arith)
first_cells (zero ∷ counts) some = absurd (omega arith)
first_cells (suc count ∷ counts) some = (replicate count 0, map (λ count. replicate count 0) counts, refl)

-- the program never shows more than in the end, and that much after enough steps
program_below_last : (p : ConstantProgram) (n : ℕ) → Below (program_shows p n) (last_shown p)
program_below_last p n =
    subst (λ s. Below s.seen (last_shown p)) (sym (program_state_is p n)) (steps_below program_finishes (program_state p 0) n)

program_end : (p : ConstantProgram) (n : ℕ) → length (statements_of p) ≤ n → program_shows p n ≡ last_shown p
program_end p n enough = ap (λ s. s.seen) (program_state_is p n) ∙ steps_end program_finishes (program_state p 0) n enough

-- two instructions for each statement
twice_statements : (p : ConstantProgram) → length (instructs_of (code_of p)) ≡ 2 * length (statements_of p)
twice_statements p =
    omega (arith, code_length p.outputs p.returned, length-append (map Output p.outputs) (Return p.returned ∷ []), length-map p.outputs Output)

module _ (d : Description) (valid : IsValid d) (h : HasConstants d) where
  -- the code of the image
  code_is : (p : ConstantProgram) → (image_of d p).code ≡ flat_map (instance_bytes d 0) (instructs_of (code_of p))
  code_is p = ap (code_bytes d 0) (sym (instructs_are p.outputs p.returned)) ∙ code_placed d valid h (code_of p) 0

  -- the machine begins at the code's front
  begins : (p : ConstantProgram) (input : List ℕ) → IsConstantProgram p → IsRunning d (code_of p) 0 [] (record { state = start_of d p input; output = [] })
  begins p input few =
      let cells = first_cells (counts_of d) (cell_there d valid h) in
      let memory = code_first d (image_of d p) in
      record {
        words = has_words p few;
        facts = refl;
        ending = refl;
        others = cells.0;
        spaces = cells.1;
        cells = cells.2;
        more = memory.0;
        code = memory.1 ∙ ap (λ bytes. bytes ++ memory.0) (code_is p);
        room = omega (arith, code_length p.outputs p.returned, few.few);
        output = refl;
      }

  -- the machine shows what the code's stages do
  pub seen_after : OneInstance → (p : ConstantProgram) (input : List ℕ) → IsConstantProgram p → (n : ℕ) (now : Progress) → RunsTo d (start_of d p input) n now → observation_of now ≡ stage_shows (steps_of next_stage (first_stage p) n)
  seen_after one p input few n now runs =
      seen_at d _ now (run_is_at d valid h one (first_stage p) (start_of d p input) n now (begins p input few) runs)

  -- the machine never shows more than the program in the end, and that much after enough steps
  machine_below : OneInstance → (p : ConstantProgram) (input : List ℕ) → IsConstantProgram p → (n : ℕ) (now : Progress) → RunsTo d (start_of d p input) n now → Below (observation_of now) (last_shown p)
  machine_below one p input few n now runs =
      subst₂ Below (sym (seen_after one p input few n now runs)) (code_shows_program p.outputs p.returned 0 [])
      (steps_below stage_finishes (first_stage p) n)

  pub machine_end : OneInstance → (p : ConstantProgram) (input : List ℕ) → IsConstantProgram p → (n : ℕ) (now : Progress) → RunsTo d (start_of d p input) n now → length (instructs_of (code_of p)) ≤ n → observation_of now ≡ last_shown p
  machine_end one p input few n now runs enough =
      seen_after one p input few n now runs ∙ steps_end stage_finishes (first_stage p) n enough
      ∙ code_shows_program p.outputs p.returned 0 []

  -- for one input
  agrees_on : OneInstance → (p : ConstantProgram) (input : List ℕ) → IsConstantProgram p → AgreesOn d p (image_of d p) (length (instructs_of (code_of p))) input
  agrees_on one p input few = record {
    machine_follows = λ n.
        let size = length (instructs_of (code_of p)) in
        let run = can_run d valid h one (first_stage p) (start_of d p input) ((n + 2) * size) (begins p input few) in
        let enough : size ≤ (n + 2) * size = grind arith in
        (run.0, run.1, subst (Below (program_shows p n)) (sym (machine_end one p input few _ run.0 run.1 enough)) (program_below_last p n));
    program_follows = λ n now runs.
        let enough : length (statements_of p) ≤ (n + 1) * (weight_of p + 1) = grind arith in
        subst (Below (observation_of now)) (sym (program_end p _ enough)) (machine_below one p input few n now runs);
  }

  -- the image's code decodes into the program's instructions
  decodes : (p : ConstantProgram) → IsConstantProgram p → DecodesInto d 0 (image_of d p).code (instructs_of (code_of p))
  decodes p few =
      subst (λ code. DecodesInto d 0 code (instructs_of (code_of p))) (sym (code_is p)) (code_decodes d valid h (code_of p) 0 (has_words p few))

  -- for every input
  pub agreement : OneInstance → (p : ConstantProgram) → IsConstantProgram p → Agrees d p (image_of d p)
  agreement one p few = record {
    instances = instructs_of (code_of p);
    decodes = decodes p few;
    twice = twice_statements p;
    runs = λ input words. agrees_on one p input few;
  }
