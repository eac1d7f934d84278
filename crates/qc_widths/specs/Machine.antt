-- What a machine's text means, and the answer to it.
use Rattle.std.specs.Prelude.{◌≡◌, List, [], ◌∷◌, map, None, Some, Result, Ok, Err}
use Rattle.std.specs.List.{flat_map}
use Rattle.qc_widths.specs.TextFaults.{acts_of_instruction, rtl_of, faults_of}
use Rattle.qc_widths.specs.GivenFacts.{given_in}
use Rattle.qc_descr.specs.declared.description.OperandKind.{OperandKind}
use Rattle.qc_descr.specs.declared.description.OperandKind.TheVariants as kind
use Rattle.qc_descr.specs.declared.description.Space as descr
use Rattle.qc_descr.specs.declared.parts.Operation.{Operation}
use Rattle.qc_lrtl.specs.declared.syntax.Item.{Item}
use Rattle.qc_lrtl.specs.declared.syntax.Item.TheVariants as fact
use Rattle.qc_lrtl.specs.declared.syntax.RawMachine.{RawMachine}
use Rattle.qc_facts.specs.declared.faults.WidthEnd.{WidthEnd}
use Rattle.qc_facts.specs.declared.faults.WidthEnd.TheVariants.{Fault, NoMemory}
use Rattle.qc_widths.specs.declared.machine.Machine.{Machine}
use Rattle.qc_facts.specs.Faults.{reported}
use Rattle.qc_facts.specs.Values.{bits_of}
use Rattle.qc_facts.specs.declared.facts.OperandFacts.TheVariants.{Register as register, Immediate as immediate, Address as address}
use Rattle.qc_facts.specs.declared.facts.OperandFacts.{OperandFacts}
use Rattle.qc_facts.specs.declared.facts.SpaceFacts.{SpaceFacts}
use Rattle.qc_facts.specs.Facts.{Facts, facts_in, facts_of_operand}
use Rattle.qc_resolve.specs.Scopes.{Meaning}
use Rattle.qc_resolve.specs.Declarations.{meanings_in}

-- the spaces and the operations that the items declare
abbrev pub space_of : SpaceFacts → descr.Space
space_of s = record { name = s.name; cells = s.cells; width = bits_of s.width; flags = s.flags }

abbrev pub kind_of : OperandFacts → OperandKind
kind_of (register space width) = kind.Register space
kind_of (immediate width) = kind.Imm (bits_of width)
kind_of address = kind.Addr

abbrev pub operation_of_item : Facts → List Meaning → Item → List Operation
operation_of_item facts meanings (fact.Instruction token name operands body) =
    record {
      name = name.text;
      operands = map (λ o. (o.name.text, kind_of (facts_of_operand facts o.kind))) operands;
      rtl = rtl_of (acts_of_instruction facts meanings operands body);
    } ∷ []
operation_of_item facts meanings _ = []

-- What a machine's text means where it has no fault.
abbrev pub machine_of : RawMachine → Machine
machine_of raw = record {
  name = raw.name.text;
  given = given_in raw.items;
  spaces = map space_of (facts_in raw.items).spaces;
  operations = flat_map (operation_of_item (facts_in raw.items) (meanings_in (facts_in raw.items) raw.items)) raw.items;
}

-- The answer to a machine's text: what it means, where it has no fault, and else the fault that is reported of all that it
-- has, unless memory is wanting.
abbrev pub Elaborates : RawMachine → Result Machine WidthEnd → Type 0
Elaborates raw (Ok machine) = (reported (faults_of raw) ≡ None) × (machine ≡ machine_of raw)
Elaborates raw (Err (Fault fault)) = reported (faults_of raw) ≡ Some fault
Elaborates raw (Err NoMemory) = Unit {0}
