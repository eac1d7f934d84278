-- The description that parts make, or what is wrong with them.
use Rattle.std.specs.Prelude.{ℕ, ◌≡◌, ◌≤◌, ◌⊎◌, List, [], ◌∷◌, length, map, sum, unwrap_or, IsTrue, All, true}
use Rattle.std.specs.Prelude.{Option, None, Some}
use Rattle.std.specs.declared.result.Result.{Result}
use Rattle.std.specs.declared.result.Result.TheVariants.{Ok, Err}
use Rattle.std.specs.List.{list_all}
use Rattle.std.specs.Option.{option_map, option_or}
use Rattle.qc_terms.specs.declared.state.Facts.{Facts}
use Rattle.qc_terms.specs.declared.state.Order.TheVariants.{Little}
use Rattle.qc_descr.specs.declared.coding.Coding.{Coding}
use Rattle.qc_descr.specs.declared.description.Description.{Description}
use Rattle.qc_descr.specs.declared.description.Instruction.{Instruction}
use Rattle.qc_descr.specs.declared.description.Space.{Space}
use Rattle.qc_descr.specs.declared.faults.DescrEnd.{DescrEnd}
use Rattle.qc_descr.specs.declared.faults.DescrEnd.TheVariants.{Fault, NoMemory}
use Rattle.qc_descr.specs.declared.faults.DescrFault.{DescrFault}
use Rattle.qc_descr.specs.declared.faults.DescrFault.TheVariants.{BadLayout}
use Rattle.qc_descr.specs.declared.parts.Given.{Given}
use Rattle.qc_descr.specs.declared.parts.Operation.{Operation}
use Rattle.qc_descr.specs.declared.sketch.Parts.{Parts}
use Rattle.qc_descr.specs.declared.sketch.Sketch.{Sketch}
use Rattle.qc_descr.specs.CodingFaults.{Operands, bits_of_claims, first_overlap, operand_sizes, operands_of, operations_fault}
use Rattle.qc_descr.specs.Layout.{unfit_part}
use Rattle.qc_descr.specs.Limits.{most_tokens}
use Rattle.qc_descr.specs.Parts.{AreParts, word_of}
use Rattle.qc_descr.specs.Valid.{is_token, is_within}

-- An alternative without misfit: it has 1 to 4 tokens of fitting sizes, a claim for each of their bits, and a size for
-- each operand; and it claims no bit for one that an operand hasn't.
pub record IsFit (o : Operands) (s : Sketch) : Type 0 where
  pub some_token : 1 ≤ length s.tokens
  pub few_tokens : length s.tokens ≤ most_tokens
  pub tokens : IsTrue (list_all is_token s.tokens)
  pub claims : length s.claims ≡ sum s.tokens
  pub sizes : List ℕ
  pub sized : operand_sizes o.word o.spaces o.kinds s.reaches ≡ Some sizes
  pub within : IsTrue (list_all (is_within sizes) (bits_of_claims s.claims))

-- the alternatives of an operation are told to be misfit, or fit
abbrev pub AreSketches : Operands → List Sketch → Type 0
AreSketches o sketches = All (λ s. (s.misfit ≡ true) ⊎ IsFit o s) sketches

-- there are alternatives for each operation
abbrev pub AreSketched : ℕ → List Space → List Operation → List (List Sketch) → Type 0
AreSketched word spaces [] [] = Unit {0}
AreSketched word spaces (o ∷ os) (s ∷ ss) =
    AreSketches (operands_of word spaces o) s × AreSketched word spaces os ss
AreSketched word spaces [] (s ∷ ss) = ⊥
AreSketched word spaces (o ∷ os) [] = ⊥

-- What a description can be made of.
pub record AreWholeParts (p : Parts) : Type 0 where
  pub parts : AreParts p.name p.given p.spaces p.operations
  pub sketched : AreSketched (word_of p.given) p.spaces p.operations p.sketches

-- the coding of an alternative
abbrev pub coding_of : Sketch → Coding
coding_of s = record { tokens = s.tokens; bits = bits_of_claims s.claims; reaches = s.reaches }

-- the coding of an operation: that of its first alternative
abbrev pub first_coding : List Sketch → Coding
first_coding [] = record { tokens = []; bits = []; reaches = [] }
first_coding (s ∷ more) = coding_of s

abbrev pub instructions_of : List Operation → List (List Sketch) → List Instruction
instructions_of [] sketches = []
instructions_of (o ∷ os) [] = []
instructions_of (o ∷ os) (s ∷ ss) =
    record { name = o.name; operands = o.operands; rtl = o.rtl; coding = first_coding s } ∷ instructions_of os ss

abbrev pub facts_of : Given → Facts
facts_of given =
    record { word = word_of given; order = unwrap_or given.order Little; «zero» = given.«zero» }

-- The fault of parts: that of the layout, else that of the first operation that isn't well coded, else the first overlap.
abbrev pub fault_of : Parts → Option DescrFault
fault_of p =
    option_or (option_map BadLayout (unfit_part p))
    (option_or (operations_fault (word_of p.given) p.spaces 0 p.operations p.sketches)
    (first_overlap (facts_of p.given).order 0 (map first_coding p.sketches)))

-- The description of parts without a fault. What they don't give is never asked for.
abbrev pub description_of : Parts → Description
description_of p = record {
  name = p.name;
  facts = facts_of p.given;
  spaces = p.spaces;
  align = unwrap_or p.given.align 1;
  slot_bits = unwrap_or p.given.slot_bits 4;
  frame = unwrap_or p.given.frame (0, 0);
  link = unwrap_or p.given.link (0, 0);
  first = (unwrap_or p.given.allocatable (0, 0, 0)).1;
  last = (unwrap_or p.given.allocatable (0, 0, 0)).2;
  allocatable = (unwrap_or p.given.allocatable (0, 0, 0)).0;
  memory = unwrap_or p.given.memory 0;
  code_end = unwrap_or p.given.code_end 0;
  data_end = unwrap_or p.given.data_end 0;
  instructions = instructions_of p.operations p.sketches;
}

-- The answer to parts: their description where they have no fault, else their fault, unless memory is wanting.
abbrev pub AnswersParts : Parts → Result Description DescrEnd → Type 0
AnswersParts p (Ok d) = (fault_of p ≡ None) × (d ≡ description_of p)
AnswersParts p (Err (Fault fault)) = fault_of p ≡ Some fault
AnswersParts p (Err NoMemory) = Unit {0}
