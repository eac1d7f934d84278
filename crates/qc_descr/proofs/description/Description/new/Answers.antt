use Rattle.std.proofs.Common.{◌≡◌, None, ◌∙◌, sym, subst, ap, List, All, length, ◌+◌, ◌≤◌, refl, arith}
use Rattle.qc_descr.specs.declared.description.Instruction.{Instruction}
use Rattle.qc_descr.specs.Making.{description_of, fault_of, instructions_of}
use Rattle.qc_descr.specs.Inner.Overlaps.{HasBytes}
use Rattle.qc_descr.specs.Valid.{IsValid}
use Rattle.qc_descr.proofs.Wholes.{own_fault_first, whole_bytes, whole_fault, whole_few, whole_length, whole_slot_bits}
use Rattle.qc_descr.proofs.description.Description.new.Goals as goal

pub returns-in-Some-clause-answer : goal.returns-in-Some-clause-answer
returns-in-Some-clause-answer c = own_fault_first c.args.parts c.in-Some.fault (sym c.own_fault.ensures ∙ c.in-Some.is)

pub instructions_of-requires : goal.instructions_of-requires
instructions_of-requires c = whole_length c.args.parts c.requires.parts

pub first_overlap-requires-clause-bytes : goal.first_overlap-requires-clause-bytes
first_overlap-requires-clause-bytes c =
    subst (λ (is : List Instruction). All (λ i. HasBytes i.coding) is) (sym (c.as_slice.ensures ∙ c.in_ok-instructions.ensures))
    (whole_bytes c.args.parts c.requires.parts (sym c.own_fault.ensures ∙ c.in_default.is))

pub first_overlap-requires-clause-few : goal.first_overlap-requires-clause-few
first_overlap-requires-clause-few c =
    subst (λ (is : List Instruction). 0 + length is ≤ 256) (sym (c.as_slice.ensures ∙ c.in_ok-instructions.ensures))
    (let few : length (instructions_of c.args.parts.operations c.args.parts.sketches) ≤ 256 = whole_few c.args.parts c.requires.parts in omega (arith, few))

pub returns-in-Some-first_overlap-clause-answer : goal.returns-in-Some-first_overlap-clause-answer
returns-in-Some-first_overlap-clause-answer c =
    whole_fault c.args.parts c.as_slice.result.now c.facts_of-order.result c.requires.parts
    (sym c.own_fault.ensures ∙ c.in_default.is) (c.as_slice.ensures ∙ c.in_ok-instructions.ensures) c.facts_of-order.ensures
    ∙ (sym c.first_overlap.ensures ∙ c.in-Some-first_overlap.is)

pub description_with-requires : goal.description_with-requires
description_with-requires c = whole_slot_bits c.args.parts (sym c.own_fault.ensures ∙ c.in_default.is)

pub returns : goal.returns
returns c =
    let faultless : fault_of c.args.parts ≡ None =
    whole_fault c.args.parts c.as_slice.result.now c.facts_of-order.result c.requires.parts
    (sym c.own_fault.ensures ∙ c.in_default.is) (c.as_slice.ensures ∙ c.in_ok-instructions.ensures) c.facts_of-order.ensures
    ∙ (sym c.first_overlap.ensures ∙ c.in_default-first_overlap.is) in
    let made : c.description_with.result ≡ description_of c.args.parts = c.description_with.ensures c.args.parts refl refl refl
    ∙ ap (λ (is : List Instruction). record (description_of c.args.parts) { instructions = is }) c.in_ok-instructions.ensures in
    record {
      answer = (faultless, made);
      valid = subst IsValid (sym made) (c.descriptions_are_valid.ensures c.args.parts c.requires.parts faultless);
    }
