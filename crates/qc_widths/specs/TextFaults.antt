-- The faults of a machine's text.
use Rattle.std.specs.Prelude.{ℕ, suc, ◌+◌, nat_eq, nat_lt, if◌then◌else◌, List, [], ◌∷◌, ◌++◌, length, map, drop}
use Rattle.std.specs.List.{flat_map, list_any}
use Rattle.qc_descr.specs.Limits.{most_instructions, most_operands, most_nodes, most_effects, most_spaces, most_cells}
use Rattle.qc_terms.specs.declared.term.Rtl.{Rtl}
use Rattle.qc_descr.specs.Valid.{nodes_of_rtl}
use Rattle.qc_grammar.specs.declared.cursor.Ident.{Ident}
use Rattle.qc_lrtl.specs.declared.syntax.Effect.{Effect}
use Rattle.qc_lrtl.specs.declared.syntax.Param.{Param}
use Rattle.qc_lrtl.specs.declared.syntax.Operand.{Operand}
use Rattle.qc_lrtl.specs.declared.syntax.Item.{Item}
use Rattle.qc_lrtl.specs.declared.syntax.Item.TheVariants as fact
use Rattle.qc_lrtl.specs.declared.syntax.RawMachine.{RawMachine}
use Rattle.qc_facts.specs.declared.faults.WidthFault.{WidthFault}
use Rattle.qc_facts.specs.declared.faults.WidthFault.TheVariants.{TwiceNamed, TooMany}
use Rattle.qc_names.specs.Reported.{twice_if}
use Rattle.qc_names.specs.Seen as names
use Rattle.qc_widths.specs.declared.repeated.Single.{Single}
use Rattle.qc_widths.specs.declared.repeated.Single.TheVariants as single
use Rattle.qc_facts.specs.Numbers.{width_faults}
use Rattle.qc_facts.specs.Facts.{Facts, operators, cell_faults, facts_in, kind_faults}
use Rattle.qc_resolve.specs.Scopes.{Signature, Meaning, Act}
use Rattle.qc_resolve.specs.Expressions.{faults_in}
use Rattle.qc_resolve.specs.Effects.{acts_of, effect_of, clashes_of_act, effect_faults, effect_events}
use Rattle.qc_resolve.specs.Declarations.{space_name, function_name, instruction_name, locals_of_params, locals_of_operands, bound_operands, names_for, scope_for, signature_of_item, meanings_in}

-- The names that have one of the same text before them, or among earlier ones.
abbrev pub repeated_after : List (List ℕ) → List Ident → List WidthFault
repeated_after = names.second_names TwiceNamed

abbrev pub repeated : List Ident → List WidthFault
repeated names = repeated_after [] names

-- the items that may stand once: their tokens, and the sort of each
abbrev pub single_item : Item → List (ℕ × Single)
single_item (fact.Word token bits) = (token, single.Word) ∷ []
single_item (fact.ByteOrder token order) = (token, single.ByteOrder) ∷ []
single_item (fact.Align token bytes) = (token, single.Align) ∷ []
single_item (fact.SlotBits token bits) = (token, single.SlotBits) ∷ []
single_item (fact.Memory token bytes) = (token, single.Memory) ∷ []
single_item (fact.Code token end) = (token, single.Code) ∷ []
single_item (fact.Data token end) = (token, single.Data) ∷ []
single_item (fact.Zero token space cell) = (token, single.Zero) ∷ []
single_item (fact.Frame token space cell) = (token, single.Frame) ∷ []
single_item (fact.Link token space cell) = (token, single.Link) ∷ []
single_item (fact.Allocatable token space first last) = (token, single.Allocatable) ∷ []
single_item _ = []

-- the place of a sort in a list of all of them
abbrev pub number_of_single : Single → ℕ
number_of_single single.Word = 0
number_of_single single.ByteOrder = 1
number_of_single single.Align = 2
number_of_single single.SlotBits = 3
number_of_single single.Memory = 4
number_of_single single.Code = 5
number_of_single single.Data = 6
number_of_single single.Zero = 7
number_of_single single.Frame = 8
number_of_single single.Link = 9
number_of_single single.Allocatable = 10

-- the items that have one of the same sort before them, or among earlier ones
abbrev pub second_singles : List Single → List (ℕ × Single) → List WidthFault
second_singles earlier [] = []
second_singles earlier (item ∷ items) =
    twice_if TwiceNamed (list_any (λ s. nat_eq (number_of_single item.1) (number_of_single s)) earlier) item.0
    ++ second_singles (earlier ++ item.1 ∷ []) items

-- Functions, named effects and operators are one kind of names.
abbrev pub second_declarations : List Item → List WidthFault
second_declarations items =
    second_singles [] (flat_map single_item items)
    ++ (repeated (flat_map space_name items)
    ++ (repeated_after (map (λ p. p.0) operators) (flat_map function_name items)
    ++ repeated (flat_map instruction_name items)))

-- more than so many of something
abbrev pub more_than : ℕ → ℕ → ℕ → List WidthFault
more_than limit token count = if nat_lt limit count then TooMany token limit ∷ [] else []

-- what an instruction does
abbrev pub acts_of_instruction : Facts → List Meaning → List Operand → List Effect → List Act
acts_of_instruction facts meanings operands body =
    acts_of (scope_for facts meanings (bound_operands facts 0 operands)) body

abbrev pub rtl_of : List Act → Rtl
rtl_of acts = record { effects = map effect_of acts }

-- the limits of an instruction, which is the one of this number from 0
abbrev pub limit_faults : ℕ → ℕ → List Operand → List Act → List WidthFault
limit_faults number token operands acts =
    more_than most_instructions token (suc number) ++ (more_than most_operands token (length operands)
    ++ (more_than most_nodes token (nodes_of_rtl (rtl_of acts)) ++ more_than most_effects token (length acts)))

-- Of an instruction that passes a limit no widths are found.
abbrev pub clashes_within : List WidthFault → List Act → List WidthFault
clashes_within [] acts = flat_map clashes_of_act acts
clashes_within (f ∷ limits) acts = []

abbrev pub instruction_faults : Facts → List Meaning → ℕ → ℕ → List Operand → List Effect → List WidthFault
instruction_faults facts meanings number token operands body =
    let names = names_for facts (map (λ m. m.signature) meanings) (locals_of_operands operands) in
    let acts = acts_of_instruction facts meanings operands body in
    let limits = limit_faults number token operands acts in
    flat_map (λ o. kind_faults facts o.kind) operands ++ (repeated (map (λ o. o.name) operands)
    ++ (flat_map (effect_faults names) body
    ++ (map TwiceNamed (drop 1 (flat_map (effect_events names) body)) ++ (limits ++ clashes_within limits acts))))

abbrev pub params_faults : List Param → List WidthFault
params_faults params = repeated (map (λ p. p.name) params)

-- The faults of an item, where the functions before it, all functions, and the numbers of instructions and of spaces
-- before it are given.
abbrev pub item_faults : Facts → List Signature → List Meaning → ℕ → ℕ → Item → List WidthFault
item_faults facts earlier meanings instructions spaces (fact.Word token bits) = width_faults bits
item_faults facts earlier meanings instructions spaces (fact.Space token name cells bits flags) =
    width_faults bits ++ (more_than most_spaces token (suc spaces) ++ more_than most_cells token cells.value)
item_faults facts earlier meanings instructions spaces (fact.Zero token space cell) = cell_faults facts space cell
item_faults facts earlier meanings instructions spaces (fact.Frame token space cell) = cell_faults facts space cell
item_faults facts earlier meanings instructions spaces (fact.Link token space cell) = cell_faults facts space cell
item_faults facts earlier meanings instructions spaces (fact.Allocatable token space first last) =
    cell_faults facts space first ++ cell_faults facts space last
item_faults facts earlier meanings instructions spaces (fact.Function token name params body) =
    params_faults params ++ faults_in (names_for facts earlier (locals_of_params params)) body
item_faults facts earlier meanings instructions spaces (fact.Effects token name params body) =
    params_faults params ++ flat_map (effect_faults (names_for facts earlier (locals_of_params params))) body
item_faults facts earlier meanings instructions spaces (fact.Instruction token name operands body) =
    instruction_faults facts meanings instructions token operands body
item_faults facts earlier meanings instructions spaces _ = []

abbrev pub faults_after : Facts → List Meaning → List Signature → ℕ → ℕ → List Item → List WidthFault
faults_after facts meanings earlier instructions spaces [] = []
faults_after facts meanings earlier instructions spaces (item ∷ items) =
    item_faults facts earlier meanings instructions spaces item
    ++ faults_after facts meanings (earlier ++ signature_of_item facts earlier item)
    (instructions + length (instruction_name item)) (spaces + length (space_name item)) items

-- all faults of a machine's text
abbrev pub faults_of : RawMachine → List WidthFault
faults_of machine =
    second_declarations machine.items
    ++ faults_after (facts_in machine.items) (meanings_in (facts_in machine.items) machine.items) [] 0 0 machine.items
