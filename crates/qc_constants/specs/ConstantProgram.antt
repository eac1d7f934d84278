-- Programs of constants: their texts and what they do.
use Rattle.std.specs.Prelude.{ℕ, zero, suc, ◌≡◌, ◌<◌, ◌≤◌, ◌+◌, ◌*◌, ◌^◌, ◌⊎◌, List, [], ◌∷◌, ◌++◌, length, map, All}
use Rattle.std.specs.Prelude.{Option, None, Some, codes}
use Rattle.std.specs.List.{flat_map}
use Rattle.std.specs.Fmt.{decimal}
use Rattle.qc_terms.specs.declared.state.Event.{Event}
use Rattle.qc_terms.specs.declared.state.Event.TheVariants.{Ended}
use Rattle.qc_terms.specs.Observation.{Observation}
use Rattle.qc_constants.specs.declared.program.ConstantProgram.{ConstantProgram}

-- at most 1,000 outputs, and each constant a word of 32 bits
pub record IsConstantProgram (p : ConstantProgram) : Type 0 where
  pub few : length p.outputs ≤ 1000
  pub outputs : All (λ word. word < 2 ^ 32) p.outputs
  pub returned : p.returned < 2 ^ 32

-- constants are written in decimal without leading zeros
abbrev pub output_text : ℕ → List ℕ
output_text word = codes "%out(" ++ decimal word ++ codes "); "

abbrev pub return_text : ℕ → List ℕ
return_text word = codes "return(" ++ decimal word ++ codes "); }"

-- nothing, or one line feed
abbrev pub IsOptionalLineFeed : List ℕ → Type 0
IsOptionalLineFeed bytes = (bytes ≡ []) ⊎ (bytes ≡ 10 ∷ [])

-- the bytes are the return of this word, and perhaps a line feed after it
abbrev pub IsReturn : List ℕ → ℕ → Type 0
IsReturn bytes word = (last : List ℕ) × IsOptionalLineFeed last × (bytes ≡ return_text word ++ last)

-- the text of a program: the fixed head, each output in order, and the return
unfoldable pub program_text : ConstantProgram → List ℕ
program_text p =
    codes "target byteorder little wordsize 32; main() { " ++ (flat_map output_text p.outputs ++ return_text p.returned)

-- the bytes are the program's text, and perhaps a line feed after it
pub record IsTextOf (bytes : List ℕ) (p : ConstantProgram) : Type 0 where
  pub program : IsConstantProgram p
  pub text : (last : List ℕ) × IsOptionalLineFeed last × (bytes ≡ program_text p ++ last)

-- a statement puts out a word, or ends the program with a word
pub data Statement : Type 0 where
  Output : (word : ℕ) → Statement
  Return : (word : ℕ) → Statement

abbrev pub statements_of : ConstantProgram → List Statement
statements_of p = map Output p.outputs ++ Return p.returned ∷ []

-- a state of a run: the statements still to do, and what was seen so far
pub record ProgramState : Type 0 where
  pub rest : List Statement
  pub seen : Observation

-- the next statement of a program that goes on
abbrev pub after_statement : List Statement → Observation → ProgramState
after_statement [] seen = record { rest = []; seen = seen }
after_statement (Output word ∷ rest) seen =
    record { rest = rest; seen = record { output = seen.output ++ word ∷ []; ending = None } }
after_statement (Return word ∷ rest) seen =
    record { rest = rest; seen = record { output = seen.output; ending = Some (Ended word) } }

-- a program that has ended stays
abbrev pub step_from : Option Event → ProgramState → ProgramState
step_from None s = after_statement s.rest s.seen
step_from (Some event) s = s

-- one step takes one statement
abbrev pub program_step : ProgramState → ProgramState
program_step s = step_from s.seen.ending s

-- the state after n steps
abbrev pub program_state : ConstantProgram → ℕ → ProgramState
program_state p zero = record { rest = statements_of p; seen = record { output = []; ending = None } }
program_state p (suc n) = program_step (program_state p n)

-- what the program shows in n steps
abbrev pub program_shows : ConstantProgram → ℕ → Observation
program_shows p n = (program_state p n).seen

-- the weight of a program: a statement weighs 1, and 1 more for its constant; a procedure weighs 4
abbrev pub weight_of : ConstantProgram → ℕ
weight_of p = 2 * length (statements_of p) + 4

-- No public contract cites the three definitions that follow.

-- no output is a prefix of the bytes
abbrev pub HasNoOutput : List ℕ → Type 0
HasNoOutput bytes = (word : ℕ) (rest : List ℕ) → word < 2 ^ 32 → bytes ≡ output_text word ++ rest → ⊥

-- the bytes are these outputs, of which there are few enough, and then what no output is a prefix of
pub record StartsWithOutputs (bytes words rest : List ℕ) : Type 0 where
  pub few : length words ≤ 1000
  pub small : All (λ word. word < 2 ^ 32) words
  pub split : bytes ≡ flat_map output_text words ++ rest
  pub no_more : HasNoOutput rest

-- a prefix of the bytes is more outputs than a program has
abbrev pub HasManyOutputs : List ℕ → Type 0
HasManyOutputs bytes =
    (words rest : List ℕ) × (length words ≡ 1001) × All (λ word. word < 2 ^ 32) words
    × (bytes ≡ flat_map output_text words ++ rest)
