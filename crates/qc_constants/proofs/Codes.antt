-- The code that a program of constants becomes, as a list of instructions that ends with the halt.
use Rattle.std.proofs.Common.{◌≡◌, ◌<◌, ◌^◌, ℕ, zero, suc, true, subst, ap₂, inl, inr, ◌+◌, List, [], ◌∷◌, ◌++◌, length, All, Some, refl, ap, arith, ◌∙◌, drop, append_assoc, ◌*◌}
use Rattle.std.proofs.lemmas.List.Elements.{All-head, All-tail}
use Rattle.std.specs.Prelude.{slice_get, slice_index, codes}
use Rattle.std.proofs.Math.Nat.{one-le-pow}
use Rattle.std.specs.List.{flat_map, list_any}
use Rattle.std.proofs.lemmas.Bool.{both_ways, cases_lt}
use Rattle.std.proofs.lemmas.Nat.Bits.{bit_at-zero, bit_at_above}
use Rattle.std.proofs.lemmas.Option.{same_Some}
use Rattle.qc_descr.specs.Step.{EncodesAt}
use Rattle.qc_descr.specs.declared.description.Description.{Description}
use Rattle.qc_descr.specs.declared.description.Instruction.{Instruction}
use Rattle.qc_descr.specs.declared.description.OperandKind.{OperandKind}
use Rattle.qc_descr.specs.declared.description.OperandKind.TheVariants as kind
use Rattle.qc_descr.specs.Description.{counts_of}
use Rattle.qc_descr.specs.Encoding.{AreCodable, Encodes, InstanceOf, IsCodable, DecodesInto, code_bytes, instance_bytes}
use Rattle.qc_descr.specs.Coding.{is_piece}
use Rattle.qc_descr.specs.Valid.{IsValid, HaveSizes, all_below}
use Rattle.qc_descr.specs.Law.CodedBytes.{covered_at}
use Rattle.qc_descr.specs.Law.Bits.{below_of_all}
use Rattle.qc_descr.specs.declared.coding.Bit.{Bit}
use Rattle.qc_descr.specs.declared.coding.Reach.{Reach}
use Rattle.qc_descr.specs.declared.coding.Reach.TheVariants.{Plain}
use Rattle.qc_terms.specs.declared.term.Dest.{Dest}
use Rattle.qc_terms.specs.declared.term.Dest.TheVariants as dest
use Rattle.qc_constants.specs.Code.{load_constant, put_cell, halt_with_cell, output_of, return_of}
use Rattle.qc_constants.specs.Constants.{HasConstants, const_instruction, out_instruction, halt_instruction, register_instruction, first_token, empty_token, immediate_token, each_below}

-- the instructions that are left: const of a word, op_out, and op_halt
pub data Code : Type 0 where
  Load : (word : ℕ) (rest : Code) → Code
  Put : (rest : Code) → Code
  Halt : Code

-- the first instruction
abbrev pub first_of : Code → InstanceOf
first_of (Load word rest) = load_constant word
first_of (Put rest) = put_cell
first_of Halt = halt_with_cell

-- its description
abbrev pub instruction_of_first : Code → Instruction
instruction_of_first (Load word rest) = const_instruction
instruction_of_first (Put rest) = out_instruction
instruction_of_first Halt = halt_instruction

abbrev pub instructs_of : Code → List InstanceOf
instructs_of (Load word rest) = load_constant word ∷ instructs_of rest
instructs_of (Put rest) = put_cell ∷ instructs_of rest
instructs_of Halt = halt_with_cell ∷ []

-- each constant is a word of 32 bits
abbrev pub HasWords : Code → Type 0
HasWords (Load word rest) = (word < 2 ^ 32) × HasWords rest
HasWords (Put rest) = HasWords rest
HasWords Halt = Unit {0}

-- the code that puts out these words and ends with the last
abbrev pub code_for : List ℕ → ℕ → Code
code_for [] returned = Load returned Halt
code_for (word ∷ words) returned = Load word (Put (code_for words returned))

-- an operand that is 0 can be coded as it is
zero_codable : (bits : List Bit) (at number : ℕ) → IsCodable bits Plain at number 0
zero_codable bits at number = record { reached = tt; kept = λ bit none. bit_at-zero bit }

-- each bit of a constant has its place
placed : all_below 32 (λ bit. list_any (is_piece 1 bit) (first_token 2 ++ immediate_token)) ≡ true
unfolding all_below first_token immediate_token each_below
placed = refl

word_codable : (at word : ℕ) → word < 2 ^ 32 → IsCodable (first_token 2 ++ immediate_token) Plain at 1 word
word_codable at word small = record {
  reached = tt;
  kept = λ bit none. elim (cases_lt bit 32) [
    | inl less ↦ absurd (both_ways _ none (below_of_all 32 _ bit placed less))
    | inr more ↦ bit_at_above word 32 bit small more
  ];
}

load_codable : (at word : ℕ) → word < 2 ^ 32 → AreCodable const_instruction.coding at (0 ∷ word ∷ [])
unfolding const_instruction
load_codable at word small zero reach is =
    subst (λ r. IsCodable (first_token 2 ++ immediate_token) r at 0 0) (same_Some _ _ is) (zero_codable _ at 0)
load_codable at word small (suc zero) reach is =
    subst (λ r. IsCodable (first_token 2 ++ immediate_token) r at 1 word) (same_Some _ _ is) (word_codable at word small)
load_codable at word small (suc (suc n)) reach is = cc

register_codable : (name : List ℕ) (to : Dest) (opcode at : ℕ) → AreCodable (register_instruction name to opcode).coding at (0 ∷ [])
unfolding register_instruction
register_codable name to opcode at zero reach is =
    subst (λ r. IsCodable (first_token opcode ++ empty_token) r at 0 0) (same_Some _ _ is) (zero_codable _ at 0)
register_codable name to opcode at (suc n) reach is = cc

-- that code has the program's instructions
pub instructs_are : (words : List ℕ) (returned : ℕ) → instructs_of (code_for words returned) ≡ flat_map output_of words ++ return_of returned
instructs_are [] returned = refl
instructs_are (word ∷ words) returned = ap (λ is. load_constant word ∷ put_cell ∷ is) (instructs_are words returned)

pub code_has_words : (words : List ℕ) (returned : ℕ) → All (λ word. word < 2 ^ 32) words → returned < 2 ^ 32 → HasWords (code_for words returned)
code_has_words [] returned all r = (r, tt)
code_has_words (word ∷ words) returned all r =
    (All-head (λ n. n < 2 ^ 32) word words all, code_has_words words returned (All-tail (λ n. n < 2 ^ 32) word words all) r)

pub code_length : (words : List ℕ) (returned : ℕ) → length (instructs_of (code_for words returned)) ≡ 2 * length words + 2
code_length [] returned = refl
code_length (word ∷ words) returned = omega (arith, code_length words returned)

-- where the first operand is a register of the first space, that space has a cell
some_cell : (d : Description) (kinds : List OperandKind) (reaches : List Reach) (sizes dropped : List ℕ) → HaveSizes d (kind.Register 0 ∷ kinds) (Plain ∷ reaches) sizes dropped → 0 < slice_index (counts_of d) 0
some_cell d kinds reaches [] dropped sized = absurd sized
some_cell d kinds reaches (size ∷ sizes) [] sized = absurd sized
some_cell d kinds reaches (size ∷ sizes) (n ∷ dropped) sized = omega (arith, sized.0.1, one-le-pow size 2 (omega arith))

module _ (d : Description) (valid : IsValid d) (h : HasConstants d) where
  -- cell 0 of the first space is there
  pub cell_there : 0 < slice_index (counts_of d) 0
  unfolding const_instruction
  cell_there =
      let covered = covered_at d 1 const_instruction valid h.constant in
      some_cell d (kind.Imm 32 ∷ []) (Plain ∷ []) covered.sizes covered.dropped covered.sized

  -- the instruction is the description's
  pub first_is : (c : Code) → slice_get d.instructions (first_of c).number ≡ Some (instruction_of_first c)
  first_is (Load word rest) = h.constant
  first_is (Put rest) = h.output
  first_is Halt = h.halt

  -- Its bytes are the instance's at any address, and there are 8.
  pub first_encodes : (c : Code) (at : ℕ) → HasWords c → Encodes d at (first_of c).number (first_of c).operands (instance_bytes d 0 (first_of c))
  unfolding const_instruction out_instruction halt_instruction register_instruction
  first_encodes (Load word rest) at w = record {
    instruction = const_instruction;
    is = h.constant;
    coded = record { in_range = (cell_there, (w.0, tt)); codable = load_codable at word w.0; bytes_are = rw h.constant refl };
  }
  first_encodes (Put rest) at w = record {
    instruction = out_instruction;
    is = h.output;
    coded = record { in_range = (cell_there, tt); codable = register_codable (codes "op_out") dest.Out 38 at; bytes_are = rw h.output refl };
  }
  first_encodes Halt at w = record {
    instruction = halt_instruction;
    is = h.halt;
    coded = record { in_range = (cell_there, tt); codable = register_codable (codes "op_halt") dest.Halt 39 at; bytes_are = rw h.halt refl };
  }

  pub first_placed : (c : Code) (at : ℕ) → instance_bytes d at (first_of c) ≡ instance_bytes d 0 (first_of c)
  unfolding const_instruction out_instruction halt_instruction register_instruction
  first_placed (Load word rest) at = rw h.constant refl
  first_placed (Put rest) at = rw h.output refl
  first_placed Halt at = rw h.halt refl

  pub first_length : (c : Code) → length (instance_bytes d 0 (first_of c)) ≡ 8
  unfolding const_instruction out_instruction halt_instruction register_instruction first_token empty_token immediate_token each_below
  first_length (Load word rest) = rw (h.constant, h.order) refl
  first_length (Put rest) = rw (h.output, h.order) refl
  first_length Halt = rw (h.halt, h.order) refl

  -- so are those of the whole code
  pub code_placed : (c : Code) (at : ℕ) → code_bytes d at (instructs_of c) ≡ flat_map (instance_bytes d 0) (instructs_of c)
  code_placed (Load word rest) at =
      ap₂ (λ xs ys. xs ++ ys) (first_placed (Load word rest) at) (code_placed rest (at + length (instance_bytes d at (load_constant word))))
  code_placed (Put rest) at =
      ap₂ (λ xs ys. xs ++ ys) (first_placed (Put rest) at) (code_placed rest (at + length (instance_bytes d at put_cell)))
  code_placed Halt at = ap (λ xs. xs ++ []) (first_placed Halt at)

  -- the code decodes into its instructions
  pub code_decodes : (c : Code) (at : ℕ) → HasWords c → DecodesInto d at (flat_map (instance_bytes d 0) (instructs_of c)) (instructs_of c)
  code_decodes (Load word rest) at w = (_, _, first_encodes (Load word rest) at w, refl, code_decodes rest _ w.1)
  code_decodes (Put rest) at w = (_, _, first_encodes (Put rest) at w, refl, code_decodes rest _ w)
  code_decodes Halt at w = (_, _, first_encodes Halt at w, refl, refl)

  -- the first instruction stands where the code does
  pub first_stands : (c : Code) (memory : List ℕ) (at : ℕ) (more : List ℕ) → HasWords c → drop at memory ≡ flat_map (instance_bytes d 0) (instructs_of c) ++ more → EncodesAt d memory at (first_of c).number (first_of c).operands (instance_bytes d 0 (first_of c))
  first_stands (Load word rest) memory at more w e = record { encodes = first_encodes (Load word rest) at w; more = _; prefix = e ∙ append_assoc (instance_bytes d 0 (load_constant word)) _ more }
  first_stands (Put rest) memory at more w e = record { encodes = first_encodes (Put rest) at w; more = _; prefix = e ∙ append_assoc (instance_bytes d 0 put_cell) _ more }
  first_stands Halt memory at more w e = record { encodes = first_encodes Halt at w; more = _; prefix = e ∙ append_assoc (instance_bytes d 0 halt_with_cell) _ more }
