-- The data of a program: their faults, their bytes, and the addresses of their labels.
use Rattle.std.specs.Prelude.{ℕ, ◌+◌, ◌*◌, ◌/◌, nat_lt, nat_le, if◌then◌else◌, cond, List, [], ◌∷◌, ◌++◌, length, Option, None, Some}
use Rattle.std.specs.List.{flat_map, sum_by}
use Rattle.std.specs.Str.{bytes_eq}
use Rattle.qc_cmm.specs.declared.syntax.Datum.{Datum}
use Rattle.qc_cmm.specs.declared.syntax.Datum.TheVariants as datum_of
use Rattle.qc_cmm.specs.declared.syntax.WordType.{WordType}
use Rattle.qc_cmm.specs.declared.syntax.Part.{Part}
use Rattle.qc_cmm.specs.declared.syntax.Part.TheVariants as part_of
use Rattle.qc_cmm.specs.declared.syntax.Program.{Program}
use Rattle.qc_cmmtype.specs.declared.faults.ProgramFault.{ProgramFault}
use Rattle.qc_cmmtype.specs.declared.faults.ProgramFault.TheVariants.{DataTooLarge}
use Rattle.qc_cmmtype.specs.Faults.{unless}
use Rattle.qc_cmmtype.specs.Types.{width_of_type, type_faults, literal_faults}

-- Data have no type wider than the word, and their literals fit their type.
abbrev pub datum_faults : ℕ → Datum → List ProgramFault
datum_faults word (datum_of.Label name) = []
datum_faults word (datum_of.Zeros element count) = type_faults word element
datum_faults word (datum_of.Values element values) =
    type_faults word element ++ flat_map (λ v. literal_faults v (Some (width_of_type element))) values

abbrev pub bytes_of_type : WordType → ℕ
bytes_of_type t = width_of_type t / 8

-- how many bytes data take
abbrev pub bytes_of : Datum → ℕ
bytes_of (datum_of.Label name) = 0
bytes_of (datum_of.Zeros element count) = count.value * bytes_of_type element
bytes_of (datum_of.Values element values) = length values * bytes_of_type element

-- the data of a program's sections, in the order of the text
abbrev pub data_of_part : Part → List Datum
data_of_part (part_of.Section token name data_of) = data_of
data_of_part (part_of.Procedure p) = []

abbrev pub data_in : Program → List Datum
data_in program = flat_map data_of_part program.parts

abbrev pub declared_bytes : Program → ℕ
declared_bytes program = sum_by bytes_of (data_in program)

-- Data stand one after the other, without gaps. The place of a label is that of the data after it.
abbrev pub place_from : ℕ → List Datum → List ℕ → Option ℕ
place_from at [] name = None
place_from at (datum_of.Label label ∷ data_after) name =
    cond (bytes_eq name label.text) (Some at) (place_from at data_after name)
place_from at (datum_of.Zeros element count ∷ data_after) name =
    place_from (at + bytes_of (datum_of.Zeros element count)) data_after name
place_from at (datum_of.Values element values ∷ data_after) name =
    place_from (at + bytes_of (datum_of.Values element values)) data_after name

-- the address of a label, where data begin at one
abbrev pub address_of : ℕ → Program → List ℕ → Option ℕ
address_of start program name = place_from start (data_in program) name

-- The data of a program fit the data region. Of their bytes no more than the greatest number of 64 bits are told.
abbrev pub told_bytes : ℕ → ℕ
told_bytes n = if nat_lt n 18446744073709551615 then n else 18446744073709551615

abbrev pub room_faults : ℕ → ℕ → List ProgramFault
room_faults bytes room = unless (nat_le bytes room) (DataTooLarge (told_bytes bytes) room)
