-- What the names of a program stand for: procedures, data labels, parameters and variables, and labels of statements.
use Rattle.std.specs.Prelude.{ℕ, Bool, ◌||◌, List, [], ◌∷◌, ◌++◌, map, is_some, Option}
use Rattle.std.specs.List.{flat_map}
use Rattle.qc_grammar.specs.declared.cursor.Ident.{Ident}
use Rattle.qc_cmm.specs.declared.syntax.Datum.{Datum}
use Rattle.qc_cmm.specs.declared.syntax.Datum.TheVariants as datum_of
use Rattle.qc_cmm.specs.declared.syntax.Declaration.{Declaration}
use Rattle.qc_cmm.specs.declared.syntax.BodyItem.{BodyItem}
use Rattle.qc_cmm.specs.declared.syntax.BodyItem.TheVariants as line
use Rattle.qc_cmm.specs.declared.syntax.Procedure.{Procedure}
use Rattle.qc_cmm.specs.declared.syntax.Part.{Part}
use Rattle.qc_cmm.specs.declared.syntax.Part.TheVariants as part_of
use Rattle.qc_cmm.specs.declared.syntax.Program.{Program}
use Rattle.qc_names.specs.Tables.{named, is_among}
use Rattle.qc_names.specs.Seen.{texts_of}
use Rattle.qc_cmmtype.specs.declared.scope.Signature.{Signature}
use Rattle.qc_cmmtype.specs.Types.{width_of_type}
use Rattle.qc_cmmtype.specs.Endings.{results_of}

-- What a program declares for all its procedures: the width of words, the procedures, and the names of data.
pub record Globals : Type 0 where
  pub word : ℕ
  pub callee : List ℕ → Option Signature
  pub is_data : List ℕ → Bool

-- What the names in a procedure's body stand for: a parameter or variable by its width, a label, and the names of the
-- program; and how many results its returns have.
pub record Scope : Type 0 where
  pub globals : Globals
  pub variable : List ℕ → Option ℕ
  pub is_label : List ℕ → Bool
  pub results : ℕ

-- parameters and variables with their widths, in the order of the text
abbrev pub locals_of_declaration : Declaration → List (Ident × ℕ)
locals_of_declaration d = map (λ n. (n, width_of_type d.type_of)) d.names

abbrev pub locals_of : Procedure → List (Ident × ℕ)
locals_of p =
    map (λ q. (q.name, width_of_type q.type_of)) p.params ++ flat_map locals_of_declaration p.variables

abbrev pub named_widths : List (Ident × ℕ) → List (List ℕ × ℕ)
named_widths locals = map (λ l. (l.0.text, l.1)) locals

-- the labels of a body
abbrev pub label_of : BodyItem → List Ident
label_of (line.Label name) = name ∷ []
label_of (line.Statement statement) = []

abbrev pub label_names : Procedure → List Ident
label_names p = flat_map label_of p.body

-- the widths of the parameters, and how many results a call has
abbrev pub signature_of : Procedure → Signature
signature_of p = record { params = map (λ q. width_of_type q.type_of) p.params; results = results_of p.body }

abbrev pub signatures_of_part : Part → List (List ℕ × Signature)
signatures_of_part (part_of.Section token name data_of) = []
signatures_of_part (part_of.Procedure p) = (p.name.text, signature_of p) ∷ []

abbrev pub signatures_of : Program → List (List ℕ × Signature)
signatures_of program = flat_map signatures_of_part program.parts

-- the labels of data
abbrev pub name_of_datum : Datum → List Ident
name_of_datum (datum_of.Label name) = name ∷ []
name_of_datum (datum_of.Zeros element count) = []
name_of_datum (datum_of.Values element values) = []

abbrev pub data_names_of_part : Part → List Ident
data_names_of_part (part_of.Section token name data_of) = flat_map name_of_datum data_of
data_names_of_part (part_of.Procedure p) = []

abbrev pub data_names : Program → List Ident
data_names program = flat_map data_names_of_part program.parts

-- the names of procedures and of data, which are one kind, in the order of the text
abbrev pub global_names_of_part : Part → List Ident
global_names_of_part (part_of.Section token name data_of) = flat_map name_of_datum data_of
global_names_of_part (part_of.Procedure p) = p.name ∷ []

abbrev pub global_names : Program → List Ident
global_names program = flat_map global_names_of_part program.parts

-- Of two declarations of one name the first counts.
abbrev pub globals_of : ℕ → Program → Globals
globals_of word program = record {
  word = word;
  callee = named (signatures_of program);
  is_data = is_among (texts_of (data_names program));
}

abbrev pub is_global : Globals → List ℕ → Bool
is_global globals name = globals.is_data name || is_some (globals.callee name)

abbrev pub scope_in : Globals → Procedure → Scope
scope_in globals p = record {
  globals = globals;
  variable = named (named_widths (locals_of p));
  is_label = is_among (texts_of (label_names p));
  results = results_of p.body;
}
