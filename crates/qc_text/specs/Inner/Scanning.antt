-- What the scanner's parts answer.
use Rattle.std.specs.Prelude.{ℕ, ◌<◌, ◌≤◌, ◌&&◌, ◌||◌, Bool, false, not, nat_eq, if◌then◌else◌, List, [], ◌∷◌, length, take, drop, Option, None, Some}
use Rattle.std.specs.Char.{is_ascii_digit, is_ascii_hexdigit}
use Rattle.std.specs.List.{prefix_len}
use Rattle.qc_text.specs.declared.piece.Front.{Front}
use Rattle.qc_text.specs.declared.run.Class.{Class}
use Rattle.qc_text.specs.declared.run.Class.TheVariants.{NamePart, Decimal, Hexadecimal, StringByte, LineByte}
use Rattle.qc_text.specs.Pieces.{Piece, IsFirst}
use Rattle.qc_text.specs.Tokens.{is_name_part, is_string_byte}

-- the bytes of a class
abbrev pub is_in : Class → ℕ → Bool
is_in NamePart b = is_name_part b
is_in Decimal b = is_ascii_digit b
is_in Hexadecimal b = is_ascii_hexdigit b
is_in StringByte b = is_string_byte b
is_in LineByte b = not (nat_eq b 10)

-- `:=`, `=>` and `..`
abbrev pub is_pair : ℕ → ℕ → Bool
is_pair a b = nat_eq a 58 && nat_eq b 61 || nat_eq a 61 && nat_eq b 62 || nat_eq a 46 && nat_eq b 46

abbrev pub begins_pair : ℕ → List ℕ → Bool
begins_pair a [] = false
begins_pair a (b ∷ bs) = is_pair a b

-- how many digits follow `0x`, behind its first byte
abbrev pub hexadecimal_run : ℕ → List ℕ → ℕ
hexadecimal_run first [] = 0
hexadecimal_run first (x ∷ digits) = if nat_eq first 48 && nat_eq x 120 then prefix_len is_ascii_hexdigit digits else 0

-- what stands at the front of some bytes: a piece of a kind and a length, or none
unfoldable pub IsFront : List ℕ → Option Front → Type 0
IsFront bytes None = (piece : Piece) (after : List ℕ) → IsFirst bytes piece after → ⊥
IsFront bytes (Some front) =
    (0 < front.length) × (front.length ≤ length bytes)
    × IsFirst bytes (record { kind = front.kind; text = take front.length bytes }) (drop front.length bytes)
