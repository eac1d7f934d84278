use Rattle.std.specs.Prelude.{◌≡◌, List, [], map, Option, None, Some}
use Rattle.std.specs.List.{flat_map}
use Rattle.std.proofs.Common.{refl, ap, sym, ◌∙◌}
use Rattle.qc_widths.specs.TextFaults.{second_declarations, faults_after}
use Rattle.qc_descr.specs.declared.parts.Operation.{Operation}
use Rattle.qc_lrtl.specs.declared.syntax.Item.{Item}
use Rattle.qc_widths.specs.declared.context.Context.{Context}
use Rattle.qc_facts.specs.declared.faults.WidthFault.{WidthFault}
use Rattle.qc_facts.specs.Faults.{reported, reported_of_both, reported_of_two, token_of, rank_of}
use Rattle.qc_facts.specs.Facts.{Facts, facts_in}
use Rattle.qc_resolve.specs.Declarations.{meanings_in, signatures_in}
use Rattle.qc_widths.specs.Machine.{operation_of_item}
use Rattle.qc_resolve.specs.KeptSignatures.{summary}
use Rattle.qc_widths.specs.Inner.Elaboration.{OperationsUnless, all_signatures, faults_in_items, operations_in}
use Rattle.qc_names.specs.Law.Reported.{reported-append}
use Rattle.qc_widths.proofs.elaboration.fault_with_functions.Goals as goal

signatures_are : (t : Context) → map summary (signatures_in t.facts.now t.items.now) ≡ map summary (all_signatures t)
unfolding all_signatures
signatures_are t = refl

faults_are : (facts : Facts) (items : List Item) → facts ≡ facts_in items →
    reported_of_both (reported (second_declarations items)) (reported (faults_after facts (meanings_in facts items) [] 0 0 items))
    ≡ reported (faults_in_items items)
unfolding faults_in_items
faults_are facts items is =
    ap (λ f. reported_of_both (reported (second_declarations items)) (reported (faults_after f (meanings_in f items) [] 0 0 items))) is
    ∙ sym (reported-append token_of rank_of (second_declarations items) (faults_after (facts_in items) (meanings_in (facts_in items) items) [] 0
    0 items))

operations_are : (facts : Facts) (items : List Item) → facts ≡ facts_in items →
    flat_map (operation_of_item facts (meanings_in facts items)) items ≡ operations_in items
unfolding operations_in
operations_are facts items is = ap (λ f. flat_map (operation_of_item f (meanings_in f items)) items) is

-- operations that are whole where no fault of two is reported
earlier_operations : (first second fault : Option WidthFault) (found all more : List Operation) →
    fault ≡ reported_of_both first second → all ≡ more → OperationsUnless second found all →
    OperationsUnless fault found more
earlier_operations first second (Some f) found all more is same whole = tt
earlier_operations None None None found all more is same whole = whole ∙ same
earlier_operations None (Some g) None found all more is same whole = cc
earlier_operations (Some f) second None found all more is same whole = absurd (none_some is)
  where
    none_some : None ≡ Some (reported_of_two f second) → ⊥
    none_some h = cc

pub elaborate_items-requires : goal.elaborate_items-requires
elaborate_items-requires c = record {
  facts = c.requires.facts;
  functions = c.requires.functions;
  signatures = c.requires.signatures ∙ signatures_are (record {
    facts = c.args.facts;
    items = c.args.items;
    functions = c.args.functions;
    signatures = c.args.signatures;
  });
}

pub returns-clause-fault : goal.returns-clause-fault
returns-clause-fault c =
    c.earlier.ensures ∙ ap (λ s. reported_of_both s c.in_ok-fault.field-0.fault) c.in_ok-second.ensures
    ∙ ap (reported_of_both (reported (second_declarations c.args.items.now))) c.in_ok-fault.ensures.fault
    ∙ faults_are c.args.facts.now c.args.items.now c.requires.facts

pub returns-clause-operations : goal.returns-clause-operations
returns-clause-operations c =
    earlier_operations c.in_ok-second.second c.in_ok-fault.field-0.fault c.earlier.result
    c.in_ok-fault.field-0.operations _ _
    c.earlier.ensures (operations_are c.args.facts.now c.args.items.now c.requires.facts)
    c.in_ok-fault.ensures.operations
