-- The instructions that are put into the code, and their bytes.
use Rattle.std.proofs.Common.{◌≡◌, ◌<◌, ◌^◌, ℕ, List, [], ◌∷◌, ◌++◌, refl, ap, sym, subst, ◌∙◌, append_assoc, append-nil, length, length-append, arith, ◌+◌, ◌*◌, take, get_or}
use Rattle.std.specs.List.{flat_map}
use Rattle.std.proofs.lemmas.List.{take_more}
use Rattle.std.proofs.lemmas.List.Concat.{flat_map-append}
use Rattle.qc_descr.specs.declared.description.Description.{Description}
use Rattle.qc_descr.specs.Encoding.{Encodes, InstanceOf, code_bytes, instance_bytes}
use Rattle.qc_constants.specs.declared.program.ConstantProgram.{ConstantProgram}
use Rattle.qc_constants.specs.Code.{image_of, load_constant, put_cell, halt_with_cell, instructions_for, output_of, return_of}
use Rattle.qc_constants.specs.ConstantProgram.{IsConstantProgram}
use Rattle.qc_descr.specs.Loading.{FitsMachine}
use Rattle.qc_descr.specs.Valid.{IsValid}
use Rattle.qc_constants.specs.Constants.{HasConstants}
use Rattle.qc_constants.proofs.Codes.{Code, Load, Put, Halt, HasWords, code_for, code_length, code_placed, first_of, first_encodes, first_length, first_placed, instructs_are, instructs_of}

-- the bytes of instructions after others
pub code_bytes-append : (d : Description) (at : ℕ) (xs ys : List InstanceOf) →
    code_bytes d at (xs ++ ys) ≡ code_bytes d at xs ++ code_bytes d (at + length (code_bytes d at xs)) ys
code_bytes-append d at [] ys = let e : at ≡ at + 0 = omega arith in ap (λ n. code_bytes d n ys) e
code_bytes-append d at (x ∷ xs) ys =
    let first : List ℕ = instance_bytes d at x in
    let next : ℕ = at + length first in
    let rest : List ℕ = code_bytes d next xs in
    let place : next + length rest ≡ at + length (first ++ rest) = omega (arith, length-append first rest) in
    ap (λ bytes. first ++ bytes) (code_bytes-append d next xs ys)
    ∙ sym (append_assoc first rest (code_bytes d (next + length rest) ys))
    ∙ ap (λ n. (first ++ rest) ++ code_bytes d n ys) place

-- the code of the outputs so far, and of one more
pub outputs_more : (d : Description) (old now new words : List ℕ) (i w : ℕ) →
    now ≡ old ++ code_bytes d (length old) (flat_map output_of (take i words)) → new ≡ now ++ code_bytes d (length now) (output_of w) →
    i < length words → w ≡ get_or words i 0 → new ≡ old ++ code_bytes d (length old) (flat_map output_of (take (i + 1) words))
outputs_more d old now new words i w so_far put within read =
    let before : List InstanceOf = flat_map output_of (take i words) in
    let bytes : List ℕ = code_bytes d (length old) before in
    let all : flat_map output_of (take (i + 1) words) ≡ before ++ output_of w =
    ap (flat_map output_of) (take_more words i 0 within) ∙ flat_map-append output_of (take i words) (get_or words i 0 ∷ [])
    ∙ ap (λ is. before ++ is) (append-nil (output_of (get_or words i 0))) ∙ ap (λ v. before ++ output_of v) (sym read) in
    let place : length now ≡ length old + length bytes = ap length so_far ∙ length-append old bytes in
    put ∙ ap (λ n. now ++ code_bytes d n (output_of w)) place
    ∙ ap (λ xs. xs ++ code_bytes d (length old + length bytes) (output_of w)) so_far
    ∙ append_assoc old bytes (code_bytes d (length old + length bytes) (output_of w))
    ∙ ap (λ xs. old ++ xs) (sym (code_bytes-append d (length old) before (output_of w)))
    ∙ ap (λ is. old ++ code_bytes d (length old) is) (sym all)

-- the code of all outputs, and of the return
pub program_bytes : (d : Description) (p : ConstantProgram) (outputs new : List ℕ) → outputs ≡ code_bytes d 0 (flat_map output_of p.outputs) →
    new ≡ outputs ++ code_bytes d (length outputs) (return_of p.returned) → new ≡ code_bytes d 0 (instructions_for p)
program_bytes d p outputs new so_far put =
    let place : length outputs ≡ 0 + length (code_bytes d 0 (flat_map output_of p.outputs)) = omega (arith, ap length so_far) in
    put ∙ ap (λ n. outputs ++ code_bytes d n (return_of p.returned)) place
    ∙ ap (λ xs. xs ++ code_bytes d (0 + length (code_bytes d 0 (flat_map output_of p.outputs))) (return_of p.returned)) so_far
    ∙ sym (code_bytes-append d 0 (flat_map output_of p.outputs) (return_of p.returned))

module _ (d : Description) (valid : IsValid d) (h : HasConstants d) where
  -- the instructions' bytes at an address are theirs there
  encodes_there : (c : Code) (at : ℕ) → HasWords c → Encodes d at (first_of c).number (first_of c).operands (instance_bytes d at (first_of c))
  encodes_there c at w =
      subst (Encodes d at (first_of c).number (first_of c).operands) (sym (first_placed d valid h c at)) (first_encodes d valid h c at w)

  pub load_encodes : (at word : ℕ) → word < 2 ^ 32 → Encodes d at 1 (0 ∷ word ∷ []) (instance_bytes d at (load_constant word))
  load_encodes at word small = encodes_there (Load word Halt) at (small, tt)

  pub put_encodes : (at : ℕ) → Encodes d at 37 (0 ∷ []) (instance_bytes d at put_cell)
  put_encodes at = encodes_there (Put Halt) at tt

  pub halt_encodes : (at : ℕ) → Encodes d at 38 (0 ∷ []) (instance_bytes d at halt_with_cell)
  halt_encodes at = encodes_there Halt at tt

  -- an instruction has 8 bytes
  code_length_is : (c : Code) → length (flat_map (instance_bytes d 0) (instructs_of c)) ≡ 8 * length (instructs_of c)
  code_length_is (Load word rest) =
      omega (arith, length-append (instance_bytes d 0 (load_constant word)) (flat_map (instance_bytes d 0) (instructs_of rest)), first_length d valid h (Load word rest), code_length_is rest)
  code_length_is (Put rest) =
      omega (arith, length-append (instance_bytes d 0 put_cell) (flat_map (instance_bytes d 0) (instructs_of rest)), first_length d valid h (Put rest), code_length_is rest)
  code_length_is Halt = omega (arith, length-append (instance_bytes d 0 halt_with_cell) [], first_length d valid h Halt)

  -- and a statement has two of them
  pub code_size : (p : ConstantProgram) → length (code_bytes d 0 (instructions_for p)) ≡ 16 * (length p.outputs + 1)
  code_size p =
      let code : Code = code_for p.outputs p.returned in
      ap (λ is. length (code_bytes d 0 is)) (sym (instructs_are p.outputs p.returned)) ∙ ap length (code_placed d valid h code 0)
      ∙ code_length_is code ∙ omega (arith, code_length p.outputs p.returned)

  -- the image fits the machine
  pub image_fits : (p : ConstantProgram) → IsConstantProgram p → FitsMachine d (image_of d p)
  image_fits p few = record {
    word = refl;
    order = refl;
    code = omega (arith, code_size p, few.few, h.room);
    room = omega arith;
    last = λ e. cc e;
  }
