-- The widths of types and the bits of literals, and the faults of those that are too wide.
use Rattle.std.specs.Prelude.{ℕ, zero, suc, ◌+◌, ◌-◌, ◌/◌, ◌^◌, min, nat_eq, nat_lt, nat_le, if◌then◌else◌, List, [], Bool, Option, None, Some}
use Rattle.qc_cmm.specs.declared.syntax.Literal.{Literal}
use Rattle.qc_cmm.specs.declared.syntax.Literal.TheVariants.{Plain, Negative}
use Rattle.qc_cmm.specs.declared.syntax.WordType.{WordType}
use Rattle.qc_cmm.specs.declared.syntax.WordType.TheVariants.{Bits8, Bits16, Bits32, Bits64}
use Rattle.qc_cmmtype.specs.declared.faults.ProgramFault.{ProgramFault}
use Rattle.qc_cmmtype.specs.declared.faults.ProgramFault.TheVariants.{WidthClash}
use Rattle.qc_cmmtype.specs.Faults.{unless}

abbrev pub width_of_type : WordType → ℕ
width_of_type (Bits8 token) = 8
width_of_type (Bits16 token) = 16
width_of_type (Bits32 token) = 32
width_of_type (Bits64 token) = 64

abbrev pub token_of_type : WordType → ℕ
token_of_type (Bits8 token) = token
token_of_type (Bits16 token) = token
token_of_type (Bits32 token) = token
token_of_type (Bits64 token) = token

-- A type is no wider than the word.
abbrev pub type_faults : ℕ → WordType → List ProgramFault
type_faults word t =
    unless (nat_le (width_of_type t) word) (WidthClash (token_of_type t) (width_of_type t) word)

-- a literal begins with its number or with the sign before it
abbrev pub token_of_literal : Literal → ℕ
token_of_literal (Plain n) = n.token
token_of_literal (Negative token n) = token

-- A number fits a width where it is below 2 to the width, and a negative one where it is a signed number of that width.
abbrev pub fits : Literal → ℕ → Bool
fits (Plain n) width = nat_lt n.value (2 ^ width)
fits (Negative token n) width = nat_le n.value (2 ^ (width - 1))

-- how often a number can be halved until nothing is left, up to so often
unfoldable pub halvings : ℕ → ℕ → ℕ
halvings zero value = 0
halvings (suc most) value = if nat_eq value 0 then 0 else suc (halvings most (value / 2))

-- the bits that a number needs; 65 stands for all above 64
abbrev pub bits_needed : ℕ → ℕ
bits_needed value = halvings 65 value

-- the bits that a literal needs, which are those of its sign and of the number less 1 if it is negative and not 0
abbrev pub bits_of_literal : Literal → ℕ
bits_of_literal (Plain n) = bits_needed n.value
bits_of_literal (Negative token n) = if nat_eq n.value 0 then 0 else min (1 + bits_needed (n.value - 1)) 65

-- A literal fits the width of its place, if that has one.
abbrev pub literal_faults : Literal → Option ℕ → List ProgramFault
literal_faults literal None = []
literal_faults literal (Some width) =
    unless (fits literal width) (WidthClash (token_of_literal literal) (bits_of_literal literal) width)
