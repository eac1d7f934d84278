-- The texts of tokens, comments and blanks. A text is the list of its bytes.
use Rattle.std.specs.Prelude.{ℕ, ◌≡◌, ◌<◌, ◌⊎◌, ◌&&◌, ◌||◌, Bool, not, nat_eq, IsTrue, List, [], ◌∷◌, ◌++◌, length, codes}
use Rattle.std.specs.Char.{is_ascii_alphabetic, is_ascii_alphanumeric, is_ascii_digit, is_ascii_hexdigit}
use Rattle.std.specs.Int.{is_in_range}
use Rattle.std.specs.List.{list_all, list_any, slice_range}
use Rattle.qc_text.specs.declared.token.Kind.{Kind}
use Rattle.qc_text.specs.declared.token.Kind.TheVariants.{Name, Prim, Number, Str, Punct, End}
use Rattle.qc_text.specs.declared.token.Token.{Token}

-- A blank is a space, a tab, a carriage return or a line feed.
abbrev pub is_blank : ℕ → Bool
is_blank b = list_any (nat_eq b) (32 ∷ 9 ∷ 13 ∷ 10 ∷ [])

-- A name is a letter or an underscore, 95, and then letters, digits and underscores.
abbrev pub is_name_start : ℕ → Bool
is_name_start b = is_ascii_alphabetic b || nat_eq b 95

abbrev pub is_name_part : ℕ → Bool
is_name_part b = is_ascii_alphanumeric b || nat_eq b 95

abbrev pub IsNameText : List ℕ → Type 0
IsNameText [] = ⊥
IsNameText (b ∷ bs) = IsTrue (is_name_start b) × IsTrue (list_all is_name_part bs)

-- A prim is a percent sign and a name.
abbrev pub IsPrimText : List ℕ → Type 0
IsPrimText text = (name : List ℕ) × IsNameText name × (text ≡ codes "%" ++ name)

-- some digits, and nothing else
abbrev pub AreDigits : (ℕ → Bool) → List ℕ → Type 0
AreDigits is_digit text = (0 < length text) × IsTrue (list_all is_digit text)

-- A number is decimal digits, or `0x` and hexadecimal digits of either case.
abbrev pub IsNumberText : List ℕ → Type 0
IsNumberText text =
    AreDigits is_ascii_digit text
    ⊎ ((digits : List ℕ) × AreDigits is_ascii_hexdigit digits × (text ≡ codes "0x" ++ digits))

-- A string is a double quote, 34, then bytes from 32 to 126 without the double quote and the backslash, 92, and a
-- double quote.
abbrev pub is_string_byte : ℕ → Bool
is_string_byte b = is_in_range 32 126 b && not (nat_eq b 34 || nat_eq b 92)

abbrev pub IsStringText : List ℕ → Type 0
IsStringText text = (inner : List ℕ) × IsTrue (list_all is_string_byte inner) × (text ≡ 34 ∷ inner ++ 34 ∷ [])

-- Punctuation is `:=`, `=>`, `..`, or one of these bytes.
abbrev pub is_punctuation : ℕ → Bool
is_punctuation b = list_any (nat_eq b) (codes "()[]{},;:=|&/.'-@")

abbrev pub IsPunctText : List ℕ → Type 0
IsPunctText text =
    (text ≡ codes ":=") ⊎ (text ≡ codes "=>") ⊎ (text ≡ codes "..")
    ⊎ ((b : ℕ) × IsTrue (is_punctuation b) × (text ≡ b ∷ []))

-- The texts of each kind of token. The end of a file is a token without bytes.
abbrev pub IsTokenText : Kind → List ℕ → Type 0
IsTokenText Name text = IsNameText text
IsTokenText Prim text = IsPrimText text
IsTokenText Number text = IsNumberText text
IsTokenText Str text = IsStringText text
IsTokenText Punct text = IsPunctText text
IsTokenText End text = text ≡ []

-- `//` and bytes other than a line feed, 10: the longest such text at a place goes to the end of its line.
abbrev pub IsLineComment : List ℕ → Type 0
IsLineComment text = (inner : List ℕ) × IsTrue (list_all (λ b. not (nat_eq b 10)) inner) × (text ≡ codes "//" ++ inner)

-- part stands somewhere in text
abbrev pub Contains : List ℕ → List ℕ → Type 0
Contains text part = (front back : List ℕ) × (text ≡ front ++ part ++ back)

-- `/*` and what follows up to the next `*/`: no `*/` ends before that one does.
abbrev pub IsBlockComment : List ℕ → Type 0
IsBlockComment text =
    (inner : List ℕ) × ¬ Contains (inner ++ codes "*") (codes "*/") × (text ≡ codes "/*" ++ inner ++ codes "*/")

abbrev pub IsComment : List ℕ → Type 0
IsComment text = IsLineComment text ⊎ IsBlockComment text

-- the bytes of a file that a token takes
abbrev pub token_text : List ℕ → Token → List ℕ
token_text bytes token = slice_range bytes token.start token.end
