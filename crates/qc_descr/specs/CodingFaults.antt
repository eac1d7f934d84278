-- What is wrong with the codings of operations: of one by itself, and of two of which some bytes begin with both.
use Rattle.std.specs.Prelude.{ℕ, zero, suc, ◌^◌, List, [], ◌∷◌, map, slice_index}
use Rattle.std.specs.Prelude.{Bool, true, false, ◌&&◌, not, nat_eq, nat_le, if◌then◌else◌}
use Rattle.std.specs.Prelude.{Option, None, Some}
use Rattle.std.specs.List.{flat_map, list_any}
use Rattle.std.specs.Option.{option_or}
use Rattle.qc_terms.specs.declared.state.Order.{Order}
use Rattle.qc_descr.specs.declared.coding.Bit.{Bit}
use Rattle.qc_descr.specs.declared.coding.Coding.{Coding}
use Rattle.qc_descr.specs.declared.coding.Reach.{Reach}
use Rattle.qc_descr.specs.declared.coding.Reach.TheVariants.{Plain, Relative, Absolute}
use Rattle.qc_descr.specs.declared.description.OperandKind.{OperandKind}
use Rattle.qc_descr.specs.declared.description.OperandKind.TheVariants as kind
use Rattle.qc_descr.specs.declared.description.Space.{Space}
use Rattle.qc_descr.specs.declared.faults.DescrFault.{DescrFault}
use Rattle.qc_descr.specs.declared.faults.DescrFault.TheVariants.{Uncovered, Overlap, FieldRange}
use Rattle.qc_descr.specs.declared.parts.Operation.{Operation}
use Rattle.qc_descr.specs.declared.sketch.Claim.{Claim}
use Rattle.qc_descr.specs.declared.sketch.Claim.TheVariants.{Free, Once, Several}
use Rattle.qc_descr.specs.declared.sketch.Sketch.{Sketch}
use Rattle.qc_descr.specs.Coding.{bytes_differ, is_piece, memory_bytes}
use Rattle.qc_descr.specs.Limits.{register_bits_end}
use Rattle.qc_descr.specs.Valid.{stands_once}

-- the n below this bound with 2 to the n so much, if there is one
unfoldable pub exponent_below : ℕ → ℕ → Option ℕ
exponent_below zero count = None
exponent_below (suc n) count = if nat_eq count (2 ^ n) then Some n else exponent_below n count

-- a number of bits that is from 1 to the word's
abbrev pub word_bits : ℕ → ℕ → Option ℕ
word_bits word bits = if nat_le 1 bits && nat_le bits word then Some bits else None

-- How many bits an operand has: a register of 2 to the n cells has n, an immediate has its width, and an address has
-- those of its reach, from 1 to the word's. All else has no number of bits.
abbrev pub operand_size : ℕ → List Space → OperandKind → Reach → Option ℕ
operand_size word spaces (kind.Register space) Plain = exponent_below register_bits_end (slice_index (map (λ s. s.cells) spaces) space)
operand_size word spaces (kind.Imm width) Plain = Some width
operand_size word spaces kind.Addr (Relative bits) = word_bits word bits
operand_size word spaces kind.Addr (Absolute bits) = word_bits word bits
operand_size word spaces _ _ = None

-- an address is relative or absolute, and nothing else is
abbrev pub suits : OperandKind → Reach → Bool
suits (kind.Register space) Plain = true
suits (kind.Imm width) Plain = true
suits kind.Addr (Relative bits) = true
suits kind.Addr (Absolute bits) = true
suits _ _ = false

-- one reach for each operand, which suits it
abbrev pub all_suit : List OperandKind → List Reach → Bool
all_suit [] [] = true
all_suit (k ∷ kinds) (r ∷ reaches) = suits k r && all_suit kinds reaches
all_suit [] (r ∷ reaches) = false
all_suit (k ∷ kinds) [] = false

-- a number before others, if there are all
abbrev pub before_sizes : Option ℕ → Option (List ℕ) → Option (List ℕ)
before_sizes None sizes = None
before_sizes (Some n) None = None
before_sizes (Some n) (Some ns) = Some (n ∷ ns)

-- the sizes of all operands, if there is one reach for each, and each has a size
abbrev pub operand_sizes : ℕ → List Space → List OperandKind → List Reach → Option (List ℕ)
operand_sizes word spaces [] [] = Some []
operand_sizes word spaces (k ∷ kinds) (r ∷ reaches) =
    before_sizes (operand_size word spaces k r) (operand_sizes word spaces kinds reaches)
operand_sizes word spaces [] (r ∷ reaches) = None
operand_sizes word spaces (k ∷ kinds) [] = None

-- what stands at a token's bit
abbrev pub claimed_bits : Claim → List Bit
claimed_bits Free = []
claimed_bits (Once bit) = bit ∷ []
claimed_bits (Several bits) = bits

-- what stands at a sketch's bits, from the lowest bit of the first token on
abbrev pub bits_of_claims : List Claim → List Bit
bits_of_claims claims = flat_map claimed_bits claims

abbrev pub is_free : Claim → Bool
is_free Free = true
is_free (Once bit) = false
is_free (Several bits) = false

abbrev pub is_several : Claim → Bool
is_several Free = false
is_several (Once bit) = false
is_several (Several bits) = true

-- how many bits of an operand from this one on, of so many, stand nowhere before one that does
unfoldable pub missing_from : ℕ → List Bit → ℕ → ℕ → ℕ
missing_from operand bits from zero = 0
missing_from operand bits from (suc n) =
    if list_any (is_piece operand from) bits then 0 else suc (missing_from operand bits (suc from) n)

-- the number of dropped bits of an operand of so many bits: of an address the lowest ones that stand nowhere
abbrev pub dropped_bits : OperandKind → ℕ → List Bit → ℕ → ℕ
dropped_bits kind.Addr operand bits size = missing_from operand bits 0 size
dropped_bits (kind.Register space) operand bits size = 0
dropped_bits (kind.Imm width) operand bits size = 0

-- the numbers of dropped bits of operands of these kinds and sizes, of which the first has this number
abbrev pub all_dropped : List OperandKind → ℕ → List Bit → List ℕ → List ℕ
all_dropped [] operand bits sizes = []
all_dropped (k ∷ kinds) operand bits [] = []
all_dropped (k ∷ kinds) operand bits (size ∷ sizes) =
    dropped_bits k operand bits size ∷ all_dropped kinds (suc operand) bits sizes

-- each bit of each operand of these kinds and sizes stands in just one place, but for dropped ones
abbrev pub all_stand : List OperandKind → List ℕ → List Bit → Bool
all_stand kinds sizes bits = stands_once sizes (all_dropped kinds 0 bits sizes) bits

-- where operands have sizes, each bit of them stands in just one place, but for dropped ones
abbrev pub all_stand_if_sized : List OperandKind → Option (List ℕ) → List Bit → Bool
all_stand_if_sized kinds None bits = true
all_stand_if_sized kinds (Some sizes) bits = all_stand kinds sizes bits

-- what operands are, by their numbers of bits: the word, the spaces, and the kinds
pub record Operands : Type 0 where
  pub word : ℕ
  pub spaces : List Space
  pub kinds : List OperandKind

-- no bit of a token is free, and all bits of the operands stand where they should
abbrev pub is_covering : Operands → Sketch → Bool
is_covering o s =
    not (list_any is_free s.claims)
    && all_stand_if_sized o.kinds (operand_sizes o.word o.spaces o.kinds s.reaches) (bits_of_claims s.claims)

-- What is wrong with the operation of this number, by its one alternative: reaches that don't suit the operands, then a
-- misfit, then what isn't covered, then a bit of which several things are said.
unfoldable pub sketch_fault : Operands → ℕ → Sketch → Option DescrFault
sketch_fault o number s =
    if not (all_suit o.kinds s.reaches) then Some (Uncovered number)
    else if s.misfit then Some (FieldRange number)
    else if not (is_covering o s) then Some (Uncovered number)
    else if list_any is_several s.claims then Some (FieldRange number)
    else None

-- what is wrong with an operation by its alternatives, of which there has to be one
abbrev pub sketches_fault : Operands → ℕ → List Sketch → Option DescrFault
sketches_fault o number [] = Some (Uncovered number)
sketches_fault o number (s ∷ []) = sketch_fault o number s
sketches_fault o number (s ∷ t ∷ more) = Some (Uncovered number)

abbrev pub operation_kinds : Operation → List OperandKind
operation_kinds o = map (λ operand. operand.1) o.operands

abbrev pub operands_of : ℕ → List Space → Operation → Operands
operands_of word spaces o = record { word = word; spaces = spaces; kinds = operation_kinds o }

-- what is wrong with the first operation that isn't well coded, where the first has this number
abbrev pub operations_fault : ℕ → List Space → ℕ → List Operation → List (List Sketch) → Option DescrFault
operations_fault word spaces number [] sketches = None
operations_fault word spaces number (o ∷ os) [] = None
operations_fault word spaces number (o ∷ os) (s ∷ ss) =
    option_or (sketches_fault (operands_of word spaces o) number s) (operations_fault word spaces (suc number) os ss)

-- an overlap of coding number a with the first of these codings, which are numbered from b, that overlaps it
abbrev pub overlap_with : Order → ℕ → Coding → ℕ → List Coding → Option DescrFault
overlap_with order a c b [] = None
overlap_with order a c b (x ∷ xs) =
    if bytes_differ (memory_bytes order c) (memory_bytes order x) then overlap_with order a c (suc b) xs
    else Some (Overlap a b)

-- the first overlap of two codings, where the first has this number: those of the first with others come first
abbrev pub first_overlap : Order → ℕ → List Coding → Option DescrFault
first_overlap order a [] = None
first_overlap order a (c ∷ cs) = option_or (overlap_with order a c (suc a) cs) (first_overlap order (suc a) cs)
