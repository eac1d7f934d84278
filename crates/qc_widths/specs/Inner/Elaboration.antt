-- What elaboration keeps from item to item.
use Rattle.std.specs.Prelude.{ℕ, ◌≡◌, ◌<◌, ◌≤◌, ◌+◌, List, [], ◌++◌, length, map, take, Option, None, Some}
use Rattle.std.specs.List.{flat_map}
use Rattle.std.specs.Option.{option_to_list}
use Rattle.qc_widths.specs.TextFaults.{second_declarations, rtl_of, item_faults, faults_after}
use Rattle.qc_terms.specs.declared.term.Effect as terms
use Rattle.qc_descr.specs.declared.parts.Operation.{Operation}
use Rattle.qc_lrtl.specs.declared.syntax.Item.{Item}
use Rattle.qc_lrtl.specs.declared.syntax.Operand.{Operand}
use Rattle.qc_lrtl.specs.declared.syntax.Param.{Param}
use Rattle.qc_descr.specs.Valid.{nodes_of_rtl}
use Rattle.qc_widths.specs.declared.acts.Acts.{Acts}
use Rattle.qc_widths.specs.declared.acts.Acts.TheVariants.{Huge, Known}
use Rattle.qc_widths.specs.declared.context.Context.{Context}
use Rattle.qc_facts.specs.declared.faults.WidthFault.{WidthFault}
use Rattle.qc_widths.specs.declared.items.Counts.{Counts}
use Rattle.qc_widths.specs.declared.progress.Progress.{Progress}
use Rattle.qc_facts.specs.Faults.{reported_of_both, reported}
use Rattle.qc_resolve.specs.Scopes.{Names, Signature, Act}
use Rattle.qc_resolve.specs.Effects.{effect_of, clashes_of_act}
use Rattle.qc_facts.specs.Facts.{facts_in}
use Rattle.qc_resolve.specs.Declarations.{locals_of_params, locals_of_operands, names_for, function_name, instruction_name, space_name, signatures_after, signatures_in, meanings_in}
use Rattle.qc_resolve.specs.FunctionTables.{IsTableOf}
use Rattle.qc_widths.specs.Machine.{operation_of_item}
use Rattle.qc_resolve.specs.KeptSignatures.{summary}

unfoldable pub all_signatures : Context → List Signature
all_signatures t = signatures_in t.facts.now t.items.now

-- The context is that of the items.
pub record IsContext (t : Context) : Type 0 where
  pub facts : t.facts.now ≡ facts_in t.items.now
  pub functions : IsTableOf t.items.now t.functions.now
  pub signatures : t.signatures.now ≡ map summary (all_signatures t)

-- the names of a body with these parameters that uses the first functions of this number
unfoldable pub names_of_params : Context → ℕ → List Param → Names
names_of_params t level params = names_for t.facts.now (take level (all_signatures t)) (locals_of_params params)

-- the names of a body with these operands
unfoldable pub names_of_operands : Context → List Operand → Names
names_of_operands t operands = names_for t.facts.now (all_signatures t) (locals_of_operands operands)

-- The acts are more than 4,096 nodes of terms, or these effects, with this clash.
abbrev pub AreActs : List Act → Acts → Type 0
AreActs acts Huge = 4096 < nodes_of_rtl (rtl_of acts)
AreActs acts (Known effects nodes clash) =
    (nodes_of_rtl (rtl_of acts) ≤ 4096) × (effects ≡ map effect_of acts) × (clash ≡ reported (flat_map clashes_of_act acts))

-- an operation that is there where no fault is reported
abbrev pub OperationUnless : Option WidthFault → Option Operation → List Operation → Type 0
OperationUnless None operation operations = option_to_list operation ≡ operations
OperationUnless (Some fault) operation operations = Unit {0}

-- effects that are there where no fault is reported
abbrev pub EffectsUnless : Option WidthFault → List terms.Effect → List Act → Type 0
EffectsUnless None effects acts = effects ≡ map effect_of acts
EffectsUnless (Some fault) effects acts = Unit {0}

-- the faults of an item behind so many others, and the operations that it declares
abbrev pub faults_of_item : Context → Counts → Item → List WidthFault
faults_of_item t counts item =
    item_faults t.facts.now (take counts.functions (all_signatures t)) (meanings_in t.facts.now t.items.now)
    counts.instructions counts.spaces item

abbrev pub operations_of_item : Context → Item → List Operation
operations_of_item t item = operation_of_item t.facts.now (meanings_in t.facts.now t.items.now) item

-- the counts behind one more item
abbrev pub counts_behind : Counts → Item → Counts
counts_behind counts item = record {
  functions = counts.functions + length (function_name item);
  instructions = counts.instructions + length (instruction_name item);
  spaces = counts.spaces + length (space_name item);
}

-- operations that are there where no fault is reported
abbrev pub OperationsUnless : Option WidthFault → List Operation → List Operation → Type 0
OperationsUnless None found operations = found ≡ operations
OperationsUnless (Some fault) found operations = Unit {0}

-- the faults of the items behind so many others
abbrev pub faults_behind : Context → Counts → List Item → List WidthFault
faults_behind t counts items =
    faults_after t.facts.now (meanings_in t.facts.now t.items.now) (take counts.functions (all_signatures t))
    counts.instructions counts.spaces items

-- all faults of the items but those of names that stand twice
abbrev pub faults_of_items : Context → List WidthFault
faults_of_items t = faults_after t.facts.now (meanings_in t.facts.now t.items.now) [] 0 0 t.items.now

-- Some items were elaborated, and these are left.
pub record IsBehind (t : Context) (progress : Progress) (rest : List Item) : Type 0 where
  pub level : progress.counts.functions ≤ length (all_signatures t)
  pub signatures : signatures_after t.facts.now (take progress.counts.functions (all_signatures t)) rest
      ≡ all_signatures t
  pub fault : reported_of_both progress.fault (reported (faults_behind t progress.counts rest)) ≡ reported (faults_of_items t)
  pub operations : OperationsUnless progress.fault (progress.operations ++ flat_map (operations_of_item t) rest)
      (flat_map (operations_of_item t) t.items.now)

-- all faults of a machine's items, and the operations that they declare
unfoldable pub faults_in_items : List Item → List WidthFault
faults_in_items items =
    second_declarations items ++ faults_after (facts_in items) (meanings_in (facts_in items) items) [] 0 0 items

unfoldable pub operations_in : List Item → List Operation
operations_in items = flat_map (operation_of_item (facts_in items) (meanings_in (facts_in items) items)) items
