-- Typed programs: those that break no rule.
use Rattle.std.specs.Prelude.{ℕ, ◌≡◌, ◌<◌, ◌^◌, ◌-◌, min, ◌⊎◌, Bool, true, false, nat_eq, List, [], ◌∷◌, ◌++◌, codes, Option}
use Rattle.std.specs.List.{flat_map, list_any}
use Rattle.std.specs.Str.{bytes_eq}
use Rattle.qc_terms.specs.declared.state.Order.{Order}
use Rattle.qc_terms.specs.declared.state.Order.TheVariants as order
use Rattle.qc_grammar.specs.declared.cursor.Ident.{Ident}
use Rattle.qc_cmm.specs.declared.syntax.ByteOrder.{ByteOrder}
use Rattle.qc_cmm.specs.declared.syntax.ByteOrder.TheVariants.{Little, Big}
use Rattle.qc_cmm.specs.declared.syntax.Target.{Target}
use Rattle.qc_cmm.specs.declared.syntax.Part.{Part}
use Rattle.qc_cmm.specs.declared.syntax.Part.TheVariants as part_of
use Rattle.qc_cmm.specs.declared.syntax.Program.{Program}
use Rattle.qc_names.specs.Seen.{second_names}
use Rattle.qc_cmmtype.specs.declared.faults.ProgramFault.{ProgramFault}
use Rattle.qc_cmmtype.specs.declared.faults.ProgramFault.TheVariants.{TwiceNamed, TargetMismatch, NoMain}
use Rattle.qc_cmmtype.specs.declared.scope.Ground.{Ground}
use Rattle.qc_cmmtype.specs.Faults.{unless, unknown_unless, reported}
use Rattle.qc_cmmtype.specs.Scopes.{Globals, globals_of, global_names}
use Rattle.qc_cmmtype.specs.Procedures.{is_main, procedure_faults}
use Rattle.qc_cmmtype.specs.Data.{datum_faults, declared_bytes, room_faults}

-- What a program's ground keeps: words of 16, 32 or 64 bits, and a data region that isn't empty and ends within them and
-- below 2 ^ 26.
pub record IsGround (g : Ground) : Type 0 where
  pub word : (g.word ≡ 16) ⊎ ((g.word ≡ 32) ⊎ (g.word ≡ 64))
  pub region : g.data_start < g.data_end
  pub within : g.data_end < 2 ^ g.word
  pub small : g.data_end < 67108864

-- The program is for the machine's byte order and word.
abbrev pub same_order : ByteOrder → Order → Bool
same_order (Little token) order.Little = true
same_order (Little token) order.Big = false
same_order (Big token) order.Little = false
same_order (Big token) order.Big = true

abbrev pub token_of_order : ByteOrder → ℕ
token_of_order (Little token) = token
token_of_order (Big token) = token

abbrev pub target_faults : Ground → Target → List ProgramFault
target_faults g t =
    unless (same_order t.order g.order) (TargetMismatch (token_of_order t.order))
    ++ unless (nat_eq t.word_size.value g.word) (TargetMismatch t.word_size.token)

-- A section's name is "data", with its quotes.
abbrev pub data_text : List ℕ
data_text = 34 ∷ (codes "data" ++ 34 ∷ [])

abbrev pub section_faults : Ident → List ProgramFault
section_faults name = unknown_unless (bytes_eq name.text data_text) name.token

abbrev pub part_faults : Globals → Part → List ProgramFault
part_faults globals (part_of.Section token name data_of) =
    section_faults name ++ flat_map (datum_faults globals.word) data_of
part_faults globals (part_of.Procedure p) = procedure_faults globals p

-- A program has a procedure `main`.
abbrev pub is_main_part : Part → Bool
is_main_part (part_of.Section token name data_of) = false
is_main_part (part_of.Procedure p) = is_main p

abbrev pub main_faults : Program → List ProgramFault
main_faults program = unless (list_any is_main_part program.parts) NoMain

-- The room for data is the data region, of which a program takes no more than 3,000,000 bytes.
abbrev pub room_of : Ground → ℕ
room_of g = min (g.data_end - g.data_start) 3000000

-- All faults of a program: each is a rule that it breaks at a token, or as a whole.
unfoldable pub program_faults : Ground → Program → List ProgramFault
program_faults g program =
    target_faults g program.target
    ++ (second_names TwiceNamed [] (global_names program)
    ++ (flat_map (part_faults (globals_of g.word program)) program.parts
    ++ (main_faults program ++ room_faults (declared_bytes program) (room_of g))))

-- The program is typed for a ground.
abbrev pub IsTyped : Ground → Program → Type 0
IsTyped g program = program_faults g program ≡ []

-- the fault that is told of a program, if it isn't typed
abbrev pub fault_of : Ground → Program → Option ProgramFault
fault_of g program = reported (program_faults g program)
