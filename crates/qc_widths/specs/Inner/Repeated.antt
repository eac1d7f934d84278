-- Names that were seen, one after the other, and the fault that is reported of those that repeat one.
use Rattle.std.specs.Prelude.{ℕ, List, [], ◌∷◌, map}
use Rattle.qc_widths.specs.TextFaults.{single_item, number_of_single}
use Rattle.qc_grammar.specs.declared.cursor.Ident.{Ident}
use Rattle.qc_names.specs.declared.seen.Seen.{Seen}
use Rattle.qc_names.specs.Seen as seen
use Rattle.qc_lrtl.specs.declared.syntax.Item.{Item}
use Rattle.qc_facts.specs.declared.faults.WidthFault.{WidthFault}
use Rattle.qc_facts.specs.declared.faults.WidthFault.TheVariants.{TwiceNamed}
use Rattle.qc_widths.specs.declared.repeated.Kind.{Kind}
use Rattle.qc_widths.specs.declared.repeated.Kind.TheVariants.{Space, Function, Instruction}
use Rattle.qc_widths.specs.declared.repeated.Single.{Single}
use Rattle.qc_facts.specs.Faults.{token_of, rank_of}
use Rattle.qc_facts.specs.Facts.{operators}
use Rattle.qc_resolve.specs.Declarations.{space_name, function_name, instruction_name}

-- what was seen after more names
abbrev pub noted_all : Seen WidthFault → List Ident → Seen WidthFault
noted_all = seen.noted_all token_of rank_of TwiceNamed

-- the names of one kind that an item declares, and those that are known before them
abbrev pub names_of : Kind → Item → List Ident
names_of Space = space_name
names_of Function = function_name
names_of Instruction = instruction_name

abbrev pub known_names : Kind → List (List ℕ)
known_names Function = map (λ p. p.0) operators
known_names _ = []

-- the name by which the sort of a single item is kept
abbrev pub name_of_single : Single → List ℕ
name_of_single s = number_of_single s ∷ []

abbrev pub named_single : ℕ × Single → Ident
named_single item = record { token = item.0; text = name_of_single item.1 }

abbrev pub single_name : Item → List Ident
single_name item = map named_single (single_item item)
