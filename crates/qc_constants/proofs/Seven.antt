-- The definitions, computed on the program that puts out 7 and returns 0.
use Rattle.std.proofs.Common.{◌≡◌, ◌<◌, ◌^◌, ℕ, zero, suc, List, [], ◌∷◌, refl, arith, lit<, lit≤, inl}
use Rattle.std.proofs.lemmas.Fmt.{decimal_digit}
use Rattle.std.proofs.lemmas.List.Elements.{All-from_recursion}
use Rattle.qc_descr.specs.Loading.{loaded_state}
use Rattle.qc_descr.specs.Step.{OneInstance, Progress, RunsTo, observation_of}
use Rattle.qc_constants.specs.Code.{image_of}
use Rattle.qc_constants.specs.ConstantProgram.{IsConstantProgram, IsTextOf, program_text}
use Rattle.qc_constants.specs.ExampleOfSeven.{seven, seven_image, seven_shows, seven_text}
use Rattle.qc_descr.specs.Valid.{IsValid}
use Rattle.qc_descr.specs.declared.description.Description.{Description}
use Rattle.qc_constants.specs.Constants.{HasConstants, const_instruction, out_instruction, halt_instruction, register_instruction, first_token, empty_token, immediate_token, each_below}
use Rattle.qc_layout.specs.ImageFile.{image_bytes}
use Rattle.qc_constants.proofs.Agreement.{seen_after, machine_end}

small : IsConstantProgram seven
small = record {
  few = lit≤ tt;
  outputs = All-from_recursion (λ word. word < 2 ^ 32) (7 ∷ []) (lit< tt, tt);
  returned = lit< tt;
}

pub text_of_seven : IsTextOf seven_text seven
unfolding program_text
text_of_seven = record {
  program = small;
  text = ([], inl refl, rw (decimal_digit 7 (lit< tt), decimal_digit 0 (lit< tt)) refl);
}

pub image_of_seven : (d : Description) → HasConstants d → image_bytes (image_of d seven) ≡ seven_image
unfolding image_bytes const_instruction out_instruction halt_instruction register_instruction first_token empty_token immediate_token each_below
image_of_seven d h = rw (h.word, h.order, h.constant, h.output, h.halt) refl

pub run_of_seven : OneInstance → (d : Description) (input : List ℕ) (steps : ℕ) (p : Progress) → IsValid d → HasConstants d → RunsTo d (loaded_state d (image_of d seven) input) steps p → observation_of p ≡ seven_shows steps
run_of_seven one d input zero p valid h runs = seen_after d valid h one seven input small 0 p runs
run_of_seven one d input (suc zero) p valid h runs = seen_after d valid h one seven input small 1 p runs
run_of_seven one d input (suc (suc zero)) p valid h runs = seen_after d valid h one seven input small 2 p runs
run_of_seven one d input (suc (suc (suc zero))) p valid h runs = seen_after d valid h one seven input small 3 p runs
run_of_seven one d input (suc (suc (suc (suc n)))) p valid h runs = machine_end d valid h one seven input small (suc (suc (suc (suc n)))) p runs (omega arith)
