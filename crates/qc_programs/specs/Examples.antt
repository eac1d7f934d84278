-- Worked examples of runs, on words of 32 bits, with a data region of four bytes from address 16 on.
use Rattle.std.specs.Prelude.{ℕ, ◌≡◌, List, [], ◌∷◌, Option, None, Some}
use Rattle.qc_words.specs.declared.operator.Op.TheVariants as op
use Rattle.qc_terms.specs.declared.state.Order.TheVariants.{Little}
use Rattle.qc_terms.specs.declared.state.Event.{Event}
use Rattle.qc_terms.specs.declared.state.Event.TheVariants.{Ended, Trapped}
use Rattle.qc_terms.specs.Observation.{Observation}
use Rattle.qc_cmmtype.specs.declared.scope.Ground.{Ground}
use Rattle.qc_programs.specs.Values.{Constant, Variable, Load, Unary, Binary}
use Rattle.qc_programs.specs.Todo.{Todo, Assign, Input, Output, Store, Label, Goto, Call, Return, Nothing, Do, If}
use Rattle.qc_programs.specs.Steps.{Bodies, Body, shown_after}

abbrev pub ground : Ground
ground = record { word = 32; order = Little; data_start = 16; data_end = 20 }

abbrev pub body : ℕ → Todo → Body
body variables todo = record { variables = variables; todo = todo }

-- a program whose first procedure is `main`
abbrev pub program : List Body → Bodies
program bodies = record { procedures = bodies; main = 0; bytes = 0 ∷ 0 ∷ 0 ∷ 0 ∷ [] }

abbrev pub shows : List ℕ → Option Event → Observation
shows output ending = record { output = output; ending = ending }

-- again: x = %in(); %out(%add(x, 1)); goto again;
abbrev pub counting : Bodies
counting = program (body 1 (Do (Label 0) (Do (Input 0) (Do (Output (Binary op.Add 32 (Variable 0) (Constant 1))) (Do (Goto 0) Nothing)))) ∷ [])

-- f(n) { if n { n = %sub(n, 1); n = f(n); } return(n); }, which `main` calls with 2
abbrev pub descending : Bodies
descending = program (
    body 1 (Do (Call (0 ∷ []) 1 (Constant 2 ∷ [])) (Do (Return (Variable 0 ∷ [])) Nothing))
    ∷ body 1 (If (Variable 0)
    (Do (Assign 0 (Binary op.Sub 32 (Variable 0) (Constant 1))) (Do (Call (0 ∷ []) 1 (Variable 0 ∷ [])) Nothing))
    Nothing (Do (Return (Variable 0 ∷ [])) Nothing))
    ∷ [])

-- x, x = g(); return(x); where g returns 1 and 2
abbrev pub assigning_twice : Bodies
assigning_twice = program (
    body 1 (Do (Call (0 ∷ 0 ∷ []) 1 []) (Do (Return (Variable 0 ∷ [])) Nothing))
    ∷ body 0 (Do (Return (Constant 1 ∷ Constant 2 ∷ [])) Nothing)
    ∷ [])

-- one action, and then the end with 0
abbrev pub once : Todo → Bodies
once todo = program (body 1 todo ∷ [])

abbrev pub storing : (count address : ℕ) → Bodies
storing count address =
    once (Do (Store count (Constant address) (Constant 258)) (Do (Output (Load 1 (Constant address))) (Do (Return (Constant 0 ∷ [])) Nothing)))

-- c = 200; c = %add(c, 100); %out(%zx32(c)); for a c of 8 bits
abbrev pub narrow : Bodies
narrow =
    once (Do (Assign 0 (Constant 200)) (Do (Assign 0 (Binary op.Add 8 (Variable 0) (Constant 100)))
    (Do (Output (Unary (op.Zx 32) 8 (Variable 0))) (Do (Return (Constant 0 ∷ [])) Nothing))))

pub record Examples : Type 0 where
  -- at its end the input traps with code 5
  pub no_input : shown_after ground counting 9 [] 2 ≡ shows [] (Some (Trapped 5))
  pub two_words : shown_after ground counting 9 (1 ∷ 2 ∷ []) 10 ≡ shows (2 ∷ 3 ∷ []) (Some (Trapped 5))
  pub greatest_word : shown_after ground counting 9 (4294967295 ∷ []) 4 ≡ shows (0 ∷ []) None
  -- a label is a step, and so is each statement
  pub one_step_less : shown_after ground counting 9 (1 ∷ 2 ∷ []) 9 ≡ shows (2 ∷ 3 ∷ []) None
  -- four activations stand at once
  pub deep_enough : shown_after ground descending 4 [] 30 ≡ shows [] (Some (Ended 0))
  pub too_deep : shown_after ground descending 3 [] 30 ≡ shows [] (Some (Trapped 3))
  -- results go from left to right
  pub last_result : shown_after ground assigning_twice 9 [] 3 ≡ shows [] (Some (Ended 2))
  -- all bytes of an access are inside the data region
  pub in_region : shown_after ground (storing 4 16) 9 [] 3 ≡ shows (2 ∷ []) (Some (Ended 0))
  pub beyond_region : shown_after ground (storing 4 17) 9 [] 3 ≡ shows [] (Some (Trapped 1))
  pub before_region : shown_after ground (storing 1 15) 9 [] 3 ≡ shows [] (Some (Trapped 1))
  pub last_byte : shown_after ground (storing 1 19) 9 [] 3 ≡ shows (2 ∷ []) (Some (Ended 0))
  pub beyond_last : shown_after ground (storing 1 20) 9 [] 3 ≡ shows [] (Some (Trapped 1))
  -- a divisor of 0 traps with code 2, and the first trap counts
  pub by_zero : shown_after ground (once (Do (Output (Binary op.Quot 32 (Constant 5) (Constant 0))) Nothing)) 9 [] 1
      ≡ shows [] (Some (Trapped 2))
  pub first_trap : shown_after ground
      (once (Do (Output (Binary op.Add 32 (Load 1 (Constant 0)) (Binary op.Quot 32 (Constant 5) (Constant 0)))) Nothing)) 9 [] 1
      ≡ shows [] (Some (Trapped 1))
  -- the place of a store is tested after its operands
  pub operands_first : shown_after ground
      (once (Do (Store 1 (Constant 0) (Binary op.Rem 32 (Constant 5) (Constant 0))) Nothing)) 9 [] 1 ≡ shows [] (Some (Trapped 2))
  pub eight_bits : shown_after ground narrow 9 [] 4 ≡ shows (44 ∷ []) (Some (Ended 0))
