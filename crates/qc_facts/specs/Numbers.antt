-- The numbers of a text that are widths, and the numbers of literals.
use Rattle.std.specs.Prelude.{ℕ, zero, suc, ◌/◌, ◌^◌, min, Bool, true, false, ◌&&◌, ◌||◌, nat_eq, nat_lt, nat_le, is_some, if◌then◌else◌, List, [], ◌∷◌, ◌++◌, Option, None, Some}
use Rattle.qc_grammar.specs.declared.cursor.Number.{Number}
use Rattle.qc_facts.specs.declared.faults.WidthFault.{WidthFault}
use Rattle.qc_facts.specs.declared.faults.WidthFault.TheVariants.{WidthClash}

abbrev pub is_empty : {A : Type 0} → List A → Bool
is_empty [] = true
is_empty (x ∷ xs) = false

-- a clash at a token, in which 65 stands for all numbers above 64
abbrev pub clash : ℕ → ℕ → ℕ → WidthFault
clash token found wanted = WidthClash token (min found 65) (min wanted 65)

-- A number that is a width is 1 to 64.
abbrev pub width_in : Number → Option ℕ
width_in n = if nat_le 1 n.value && nat_le n.value 64 then Some n.value else None

abbrev pub width_faults : Number → List WidthFault
width_faults n = if is_some (width_in n) then [] else clash n.token n.value 64 ∷ []

-- how often a number can be halved until nothing is left, up to so often
unfoldable pub halvings : ℕ → ℕ → ℕ
halvings zero value = 0
halvings (suc most) value = if nat_eq value 0 then 0 else suc (halvings most (value / 2))

-- the bits that a number needs; 65 stands for all above 64
abbrev pub bits_needed : ℕ → ℕ
bits_needed value = halvings 65 value

-- a number is below 2 to the width, if there is a width
abbrev pub fit_faults : Number → Option ℕ → List WidthFault
fit_faults value None = []
fit_faults value (Some width) =
    if nat_lt value.value (2 ^ width) then [] else clash value.token (bits_needed value.value) width ∷ []

-- the bits of a literal are a width, and hold its number
abbrev pub literal_faults : Number → Number → List WidthFault
literal_faults value bits = width_faults bits ++ fit_faults value (width_in bits)

-- the widths of memory accesses
abbrev pub is_access : ℕ → Bool
is_access bits = nat_eq bits 8 || nat_eq bits 16 || nat_eq bits 32 || nat_eq bits 64

-- a width is at most another one, if that is known
abbrev pub excess_faults : Number → Option ℕ → List WidthFault
excess_faults n None = []
excess_faults n (Some most) = if nat_lt most n.value then clash n.token n.value most ∷ [] else []

-- A memory access has 8, 16, 32 or 64 bits, and at most the word's.
abbrev pub access_faults : Option ℕ → Number → List WidthFault
access_faults word n = if is_access n.value then excess_faults n word else clash n.token n.value 64 ∷ []

abbrev pub access_width : Option ℕ → Number → Option ℕ
access_width word n = if is_empty (access_faults word n) then Some n.value else None
