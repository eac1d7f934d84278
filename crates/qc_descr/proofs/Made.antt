-- The description of parts without a fault is valid.
use Rattle.std.proofs.Common.{◌≡◌, ℕ, suc, ◌≤◌, ◌⊎◌, List, [], ◌∷◌, length, map, true, None, refl, sym, ap, subst, ⊎_elim, arith}
use Rattle.std.specs.Prelude.{All}
use Rattle.std.specs.List.{AllByRecursion}
use Rattle.std.proofs.lemmas.Bool.{both_ways}
use Rattle.std.proofs.lemmas.List.Elements.{All-cons, All-head, All-map, All-nil, All-tail, recursion_from_All}
use Rattle.qc_terms.specs.declared.state.Order.{Order}
use Rattle.qc_descr.specs.declared.coding.Coding.{Coding}
use Rattle.qc_descr.specs.declared.description.Description.{Description}
use Rattle.qc_descr.specs.declared.description.Instruction.{Instruction}
use Rattle.qc_descr.specs.declared.description.Space.{Space}
use Rattle.qc_descr.specs.declared.faults.DescrFault.TheVariants.{BadLayout}
use Rattle.qc_descr.specs.declared.parts.Operation.{Operation}
use Rattle.qc_descr.specs.declared.sketch.Parts.{Parts}
use Rattle.qc_descr.specs.declared.sketch.Sketch.{Sketch}
use Rattle.qc_descr.specs.CodingFaults.{Operands, operands_of, operation_kinds, operations_fault}
use Rattle.qc_descr.specs.Layout.{unfit_part}
use Rattle.qc_descr.specs.Making.{AreSketched, AreSketches, AreWholeParts, IsFit, description_of, facts_of, fault_of, first_coding, instructions_of}
use Rattle.qc_descr.specs.Names.{AreDistinct, HasDistinctOperands, HasNamedOperands, HasNames, IsName}
use Rattle.qc_descr.specs.Parts.{AreParts, HasSpace, IsOperation, word_of}
use Rattle.qc_descr.specs.Valid.{IsCovered, IsValid, IsValidInstruction, IsWithinLimits, all_differ, nodes_of_rtl}
use Rattle.qc_descr.proofs.Covered.{covered}
use Rattle.qc_descr.proofs.Faultless.{HasOne, neither, no_overlap, none_mapped, one_sketch}
use Rattle.qc_descr.proofs.LaidOut.{AllFit, all_fit, laid_out}

-- what follows for each instruction from what its operation is, whatever its coding
each_made : (P : Instruction → Type 0) (Q : Operation → Type 0) →
    ((o : Operation) (c : Coding) → Q o → P (record { name = o.name; operands = o.operands; rtl = o.rtl; coding = c })) →
    (os : List Operation) (ss : List (List Sketch)) → All Q os → All P (instructions_of os ss)
each_made P Q made [] ss each = All-nil P
each_made P Q made (o ∷ os) [] each = All-nil P
each_made P Q made (o ∷ os) (s ∷ ss) each =
    All-cons P _ (instructions_of os ss) (made o (first_coding s) (All-head Q o os each))
    (each_made P Q made os ss (All-tail Q o os each))

-- no more instructions than operations
length-instructions_of : (os : List Operation) (ss : List (List Sketch)) → length (instructions_of os ss) ≤ length os
length-instructions_of [] ss = omega arith
length-instructions_of (o ∷ os) [] = omega arith
length-instructions_of (o ∷ os) (s ∷ ss) = omega (arith, length-instructions_of os ss)

-- the instructions have the codings of the first alternatives
pub same_codings : (word : ℕ) (spaces : List Space) (os : List Operation) (ss : List (List Sketch)) → AreSketched word spaces os ss →
    map (λ (i : Instruction). i.coding) (instructions_of os ss) ≡ map first_coding ss
same_codings word spaces [] [] sketched = refl
same_codings word spaces [] (s ∷ ss) sketched = absurd sketched
same_codings word spaces (o ∷ os) [] sketched = absurd sketched
same_codings word spaces (o ∷ os) (s ∷ ss) sketched =
    ap (λ cs. first_coding s ∷ cs) (same_codings word spaces os ss sketched.1)

-- the instructions have the names of the operations
same_names : (word : ℕ) (spaces : List Space) (os : List Operation) (ss : List (List Sketch)) → AreSketched word spaces os ss →
    map (λ (i : Instruction). i.name) (instructions_of os ss) ≡ map (λ (o : Operation). o.name) os
same_names word spaces [] [] sketched = refl
same_names word spaces [] (s ∷ ss) sketched = absurd sketched
same_names word spaces (o ∷ os) [] sketched = absurd sketched
same_names word spaces (o ∷ os) (s ∷ ss) sketched = ap (λ names. o.name ∷ names) (same_names word spaces os ss sketched.1)

-- an alternative that isn't told to be misfit is fit
fit_one : (o : Operands) (ss : List Sketch) (has : HasOne o ss) → AreSketches o ss → IsFit o has.one
fit_one o ss has sketches =
    ⊎_elim (λ misfit. absurd (both_ways _ has.faultless.fit misfit)) (λ fit. fit)
    (All-head (λ s. (s.misfit ≡ true) ⊎ IsFit o s) has.one [] (subst (AreSketches o) has.only sketches))

-- the instruction of an operation without a fault is valid
valid_one : (p : Parts) (o : Operation) (ss : List Sketch) → IsOperation p.given p.spaces o →
    HasOne (operands_of (word_of p.given) p.spaces o) ss → AreSketches (operands_of (word_of p.given) p.spaces o) ss →
    IsValidInstruction (description_of p) (record { name = o.name; operands = o.operands; rtl = o.rtl; coding = first_coding ss })
valid_one p o ss is has sketches =
    let d : Description = description_of p in
    let spaces : AllByRecursion (HasSpace d.spaces) (operation_kinds o) =
    recursion_from_All (HasSpace d.spaces) (operation_kinds o) (All-map (HasSpace d.spaces) (λ operand. operand.1) o.operands is.places) in
    record {
      typed = is.typed;
      event = is.event;
      names = is.names;
      covered = subst (λ xs. IsCovered d (record { name = o.name; operands = o.operands; rtl = o.rtl; coding = first_coding xs })) (sym has.only)
          (covered d o has.one spaces (fit_one _ ss has sketches) has.faultless);
    }

-- each instruction is valid
valid_each : (p : Parts) (number : ℕ) (os : List Operation) (ss : List (List Sketch)) → All (IsOperation p.given p.spaces) os →
    AreSketched (word_of p.given) p.spaces os ss → operations_fault (word_of p.given) p.spaces number os ss ≡ None →
    All (IsValidInstruction (description_of p)) (instructions_of os ss)
valid_each p number [] ss each sketched h = All-nil _
valid_each p number (o ∷ os) [] each sketched h = All-nil _
valid_each p number (o ∷ os) (s ∷ ss) each sketched h =
    let faults = neither _ _ h in
    let is : IsOperation p.given p.spaces o = All-head (IsOperation p.given p.spaces) o os each in
    All-cons (IsValidInstruction (description_of p)) _ (instructions_of os ss)
    (valid_one p o s is (one_sketch _ _ s faults.0) sketched.0)
    (valid_each p (suc number) os ss (All-tail (IsOperation p.given p.spaces) o os each) sketched.1 faults.1)

-- how many things there are
within_limits : (p : Parts) → AreParts p.name p.given p.spaces p.operations → IsWithinLimits (description_of p)
within_limits p parts =
    let IsOne : Operation → Type 0 = IsOperation p.given p.spaces in
    record {
      instructions = omega (arith, length-instructions_of p.operations p.sketches, parts.few_operations);
      operands = each_made (λ i. length i.operands ≤ 8) IsOne (λ o c is. is.operands) p.operations p.sketches parts.each;
      spaces = parts.few_spaces;
      cells = parts.few_cells;
      effects = each_made (λ i. length i.rtl.effects ≤ 16) IsOne (λ o c is. is.effects) p.operations p.sketches parts.each;
      nodes = each_made (λ i. nodes_of_rtl i.rtl ≤ 4096) IsOne (λ o c is. is.nodes) p.operations p.sketches parts.each;
    }

-- the names are those of the parts
has_names : (p : Parts) → AreWholeParts p → HasNames (description_of p)
has_names p whole =
    let IsOne : Operation → Type 0 = IsOperation p.given p.spaces in
    record {
      name = whole.parts.is_name;
      space_names = whole.parts.space_names;
      instruction_names = each_made (λ i. IsName i.name) IsOne (λ o c is. is.name) p.operations p.sketches whole.parts.each;
      operand_names = each_made HasNamedOperands IsOne (λ o c is. is.operand_names) p.operations p.sketches whole.parts.each;
      spaces = whole.parts.distinct_spaces;
      instructions = subst AreDistinct (sym (same_names (word_of p.given) p.spaces p.operations p.sketches whole.sketched))
          whole.parts.distinct_operations;
      operands = each_made HasDistinctOperands IsOne (λ o c is. is.distinct) p.operations p.sketches whole.parts.each;
    }

-- the description of parts without a fault
pub made_valid : (p : Parts) → AreWholeParts p → fault_of p ≡ None → IsValid (description_of p)
made_valid p whole h =
    let faults = neither _ _ h in
    let codings = neither _ _ faults.1 in
    let fit : AllFit p = all_fit p (none_mapped BadLayout (unfit_part p) faults.0) in
    let order : Order = (facts_of p.given).order in
    record {
      layout = laid_out p fit whole.parts codings.0;
      limits = within_limits p whole.parts;
      names = has_names p whole;
      instructions = valid_each p 0 p.operations p.sketches whole.parts.each whole.sketched codings.0;
      differ = subst (λ cs. all_differ order cs ≡ true)
          (sym (same_codings (word_of p.given) p.spaces p.operations p.sketches whole.sketched))
          (no_overlap order 0 (map first_coding p.sketches) codings.1);
    }
