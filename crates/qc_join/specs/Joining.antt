-- The description that a machine and a coding's text make, or the fault that is reported.
use Rattle.std.specs.Prelude.{ℕ, suc, ◌≡◌, ◌&&◌, Bool, true, false, if◌then◌else◌, List, [], ◌∷◌, map, min}
use Rattle.std.specs.Prelude.{Option, None, Some, is_some}
use Rattle.std.specs.List.{flat_map}
use Rattle.std.specs.Option.{option_map}
use Rattle.std.specs.Str.{bytes_eq}
use Rattle.std.specs.declared.result.Result.{Result}
use Rattle.std.specs.declared.result.Result.TheVariants.{Ok, Err}
use Rattle.qc_names.specs.Tables.{named}
use Rattle.qc_descr.specs.declared.coding.Reach.{Reach}
use Rattle.qc_descr.specs.declared.coding.Reach.TheVariants.{Plain, Relative, Absolute}
use Rattle.qc_descr.specs.declared.description.Description.{Description}
use Rattle.qc_descr.specs.declared.description.OperandKind.{OperandKind}
use Rattle.qc_descr.specs.declared.description.Space.{Space}
use Rattle.qc_descr.specs.declared.parts.Operation.{Operation}
use Rattle.qc_descr.specs.declared.sketch.Parts.{Parts}
use Rattle.qc_descr.specs.declared.sketch.Sketch.{Sketch}
use Rattle.qc_descr.specs.CodingFaults.{operand_size, operand_sizes, operation_kinds}
use Rattle.qc_descr.specs.Making.{description_of, fault_of}
use Rattle.qc_descr.specs.Parts.{word_of}
use Rattle.qc_sled.specs.declared.syntax.Item.{Item}
use Rattle.qc_sled.specs.declared.syntax.Item.TheVariants.{Fields, Pattern, Constructor}
use Rattle.qc_sled.specs.declared.syntax.Param.{Param}
use Rattle.qc_sled.specs.declared.syntax.Pattern as tree
use Rattle.qc_sled.specs.declared.syntax.RawCoding.{RawCoding}
use Rattle.qc_sled.specs.declared.syntax.Reach as written
use Rattle.qc_sled.specs.declared.syntax.Reach.TheVariants as reach
use Rattle.qc_join.specs.declared.expanded.Expanded.{Expanded}
use Rattle.qc_join.specs.declared.expanded.Expanded.TheVariants.{Several, Unfit, Fit}
use Rattle.qc_join.specs.declared.faults.JoinEnd.{JoinEnd}
use Rattle.qc_join.specs.declared.faults.JoinEnd.TheVariants.{Fault, NoMemory}
use Rattle.qc_join.specs.declared.faults.JoinFault.{JoinFault}
use Rattle.qc_join.specs.declared.faults.JoinFault.TheVariants.{UnknownName, TwiceNamed, Descr}
use Rattle.qc_widths.specs.declared.machine.Machine.{Machine}
use Rattle.qc_join.specs.Expansion.{expanded, fields_of, patterns_of}
use Rattle.qc_join.specs.Faults.{fault_of_name, reported}
use Rattle.qc_join.specs.Names.{name_faults}

-- a constructor: its parameters and its pattern
pub record ConstructorOf : Type 0 where
  pub params : List Param
  pub body : tree.Pattern

abbrev pub constructors_in : Item → List (List ℕ × ConstructorOf)
constructors_in (Fields token name bits parts) = []
constructors_in (Pattern token name body) = []
constructors_in (Constructor token name params body) = (name.text, record { params = params; body = body }) ∷ []

-- the parameters have the operands' names, in order
abbrev pub are_operands : List (List ℕ × OperandKind) → List Param → Bool
are_operands [] [] = true
are_operands (o ∷ os) (p ∷ ps) = bytes_eq p.name.text o.0 && are_operands os ps
are_operands [] (p ∷ ps) = false
are_operands (o ∷ os) [] = false

-- A parameter's reach. Numbers of bits above 255 are reported as 255, which is more than any word has.
abbrev pub reach_of : Option written.Reach → Reach
reach_of None = Plain
reach_of (Some (reach.Relative token bits)) = Relative (min bits.value 255)
reach_of (Some (reach.Absolute token bits)) = Absolute (min bits.value 255)

abbrev pub reaches_of : List Param → List Reach
reaches_of params = map (λ p. reach_of p.reach) params

-- the operands' names, each with its number and its number of bits, if it has one; the first has this number
abbrev pub named_operands
    : ℕ → List Space → ℕ → List (List ℕ × OperandKind) → List Reach → List (List ℕ × (ℕ × Option ℕ))
named_operands word spaces number [] reaches = []
named_operands word spaces number (o ∷ os) [] = []
named_operands word spaces number (o ∷ os) (r ∷ reaches) =
    (o.0, (number, operand_size word spaces o.1 r)) ∷ named_operands word spaces (suc number) os reaches

-- a sketch of what doesn't fit
abbrev pub misfit_sketch : List Reach → Sketch
misfit_sketch reaches = record { tokens = []; claims = []; reaches = reaches; misfit = true }

-- The alternatives of what a pattern comes to: of several none is reported. One fits where all operands have a size too.
abbrev pub sketches_from : List Reach → Bool → Expanded → List Sketch
sketches_from reaches sized Several = []
sketches_from reaches sized Unfit = misfit_sketch reaches ∷ []
sketches_from reaches sized (Fit tokens claims) =
    if sized then record { tokens = map (λ t. t.bits) tokens; claims = claims; reaches = reaches; misfit = false } ∷ []
    else misfit_sketch reaches ∷ []

-- The alternatives of an operation, whose constructor is there, with parameters of the operands' names.
abbrev pub sketches_by : Machine → List Item → Operation → ConstructorOf → List Sketch
sketches_by machine items o c =
    sketches_from (reaches_of c.params)
    (is_some (operand_sizes (word_of machine.given) machine.spaces (operation_kinds o) (reaches_of c.params)))
    (expanded c.body (record {
      fields = fields_of items;
      patterns = patterns_of items;
      operands = named_operands (word_of machine.given) machine.spaces 0 o.operands (reaches_of c.params);
    }))

abbrev pub sketches_of_constructor : Machine → List Item → Operation → Option ConstructorOf → List Sketch
sketches_of_constructor machine items o None = []
sketches_of_constructor machine items o (Some c) =
    if are_operands o.operands c.params then sketches_by machine items o c else []

abbrev pub sketches_of : Machine → List Item → Operation → List Sketch
sketches_of machine items o =
    sketches_of_constructor machine items o (named (flat_map constructors_in items) o.name)

-- the parts of the machine with the codings of its operations
abbrev pub parts_of : Machine → List Item → Parts
parts_of machine items = record {
  name = machine.name;
  given = machine.given;
  spaces = machine.spaces;
  operations = machine.operations;
  sketches = map (sketches_of machine items) machine.operations;
}

-- the fault among names that is reported of a text
abbrev pub name_fault : Machine → RawCoding → Option JoinFault
name_fault machine raw =
    option_map fault_of_name
    (reported (name_faults machine.name (map (λ o. o.name) machine.operations) raw))

-- The answer to parts, as that to a text.
abbrev pub JoinsParts : Parts → Result Description JoinEnd → Type 0
JoinsParts parts (Ok d) = (fault_of parts ≡ None) × (d ≡ description_of parts)
JoinsParts parts (Err (Fault (Descr fault))) = fault_of parts ≡ Some fault
JoinsParts parts (Err (Fault (UnknownName token))) = ⊥
JoinsParts parts (Err (Fault (TwiceNamed token))) = ⊥
JoinsParts parts (Err NoMemory) = Unit {0}

-- The answer to a machine and a coding's text: a fault among names, if there is one, else that of the parts, if there is
-- one, else their description, unless memory is wanting.
abbrev pub Joins : Machine → RawCoding → Result Description JoinEnd → Type 0
Joins machine raw (Ok d) =
    (name_fault machine raw ≡ None) × (fault_of (parts_of machine raw.items) ≡ None)
    × (d ≡ description_of (parts_of machine raw.items))
Joins machine raw (Err (Fault (Descr fault))) =
    (name_fault machine raw ≡ None) × (fault_of (parts_of machine raw.items) ≡ Some fault)
Joins machine raw (Err (Fault fault)) = name_fault machine raw ≡ Some fault
Joins machine raw (Err NoMemory) = Unit {0}
