-- The program that puts out 7 and returns 0: what its text, its image and its run are, by hand.
use Rattle.std.specs.Prelude.{ℕ, zero, suc, List, [], ◌∷◌, None, Some, codes}
use Rattle.qc_terms.specs.declared.state.Event.TheVariants.{Ended}
use Rattle.qc_terms.specs.Observation.{Observation}
use Rattle.qc_constants.specs.declared.program.ConstantProgram.{ConstantProgram}

abbrev pub seven : ConstantProgram
seven = record { outputs = 7 ∷ []; returned = 0 }

abbrev pub seven_text : List ℕ
seven_text = codes "target byteorder little wordsize 32; main() { %out(7); return(0); }"

-- the head, const of 7 into cell 0, op_out of it, const of 0 into cell 0, and op_halt of it
abbrev pub seven_image : List ℕ
seven_image =
    0x51 ∷ 0x43 ∷ 0x49 ∷ 0x31 ∷ 0x20 ∷ 0 ∷ 0 ∷ 0 ∷ 0x20 ∷ 0 ∷ 0 ∷ 0 ∷ 0 ∷ 0 ∷ 0 ∷ 0
    ∷ 0x02 ∷ 0 ∷ 0 ∷ 0 ∷ 0x07 ∷ 0 ∷ 0 ∷ 0
    ∷ 0x26 ∷ 0 ∷ 0 ∷ 0 ∷ 0 ∷ 0 ∷ 0 ∷ 0
    ∷ 0x02 ∷ 0 ∷ 0 ∷ 0 ∷ 0 ∷ 0 ∷ 0 ∷ 0
    ∷ 0x27 ∷ 0 ∷ 0 ∷ 0 ∷ 0 ∷ 0 ∷ 0 ∷ 0 ∷ []

-- what the machine has shown after each number of steps
abbrev pub seven_shows : ℕ → Observation
seven_shows zero = record { output = []; ending = None }
seven_shows (suc zero) = record { output = []; ending = None }
seven_shows (suc (suc zero)) = record { output = 7 ∷ []; ending = None }
seven_shows (suc (suc (suc zero))) = record { output = 7 ∷ []; ending = None }
seven_shows (suc (suc (suc (suc n)))) = record { output = 7 ∷ []; ending = Some (Ended 0) }
