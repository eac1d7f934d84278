-- How a file is cut into tokens, comments and blanks, and why it can't be.
use Rattle.std.specs.Prelude.{ℕ, ◌≡◌, ◌≢◌, ◌+◌, ◌≤◌, ◌⊎◌, IsTrue, List, [], ◌∷◌, ◌++◌, length, codes, Option, None, Some}
use Rattle.qc_text.specs.declared.scanner.TextEnd.{TextEnd}
use Rattle.qc_text.specs.declared.scanner.TextEnd.TheVariants.{BadByte, NoMemory}
use Rattle.qc_text.specs.declared.token.Kind.{Kind}
use Rattle.qc_text.specs.declared.token.Kind.TheVariants.{End}
use Rattle.qc_text.specs.declared.token.Token.{Token}
use Rattle.qc_text.specs.Tokens.{is_blank, IsTokenText, IsComment}

-- A piece of a file: its bytes, and the kind of token that they are. Blanks and comments are of no kind.
pub record Piece : Type 0 where
  pub kind : Option Kind
  pub text : List ℕ

abbrev pub IsBlank : List ℕ → Type 0
IsBlank text = (b : ℕ) × IsTrue (is_blank b) × (text ≡ b ∷ [])

abbrev pub IsPieceText : Option Kind → List ℕ → Type 0
IsPieceText None text = IsBlank text ⊎ IsComment text
IsPieceText (Some kind) text = IsTokenText kind text × (text ≢ [])

-- The bytes are a piece and the rest. The longest piece is taken: no longer front of the bytes is one. Where `/*`
-- stands, it is a comment, and never the punctuation `/`.
pub record IsFirst (bytes : List ℕ) (piece : Piece) (rest : List ℕ) : Type 0 where
  pub split : bytes ≡ piece.text ++ rest
  pub is : IsPieceText piece.kind piece.text
  pub longest : (kind : Option Kind) (text after : List ℕ)
      → IsPieceText kind text → bytes ≡ text ++ after → length text ≤ length piece.text
  pub comment : (after : List ℕ) → bytes ≡ codes "/*" ++ after → IsComment piece.text

-- The bytes are these pieces, one after another, and the rest.
abbrev pub AreCut : List ℕ → List Piece → List ℕ → Type 0
AreCut bytes [] rest = bytes ≡ rest
AreCut bytes (piece ∷ pieces) rest = (after : List ℕ) × IsFirst bytes piece after × AreCut after pieces rest

-- the place after these pieces, of which the first stands at a place
abbrev pub place_after : ℕ → List Piece → ℕ
place_after at [] = at
place_after at (piece ∷ pieces) = place_after (at + length piece.text) pieces

-- the token of a kind that stands at a place, if the kind is one
abbrev pub token_at : ℕ → Option Kind → ℕ → List Token
token_at start None end = []
token_at start (Some kind) end = record { kind = kind; start = start; end = end } ∷ []

-- the tokens of these pieces, of which the first stands at a place, and then the end
abbrev pub tokens_of : ℕ → List Piece → List Token
tokens_of at [] = token_at at (Some End) at
tokens_of at (piece ∷ pieces) =
    token_at at piece.kind (at + length piece.text) ++ tokens_of (at + length piece.text) pieces

-- The file is whole pieces, and these are its tokens.
pub record AreTokens (bytes : List ℕ) (tokens : List Token) : Type 0 where
  pub pieces : List Piece
  pub cut : AreCut bytes pieces []
  pub are : tokens ≡ tokens_of 0 pieces

-- The file is whole pieces up to the byte at a place, and no piece begins there.
pub record IsBadByte (bytes : List ℕ) (at : ℕ) : Type 0 where
  pub pieces : List Piece
  pub rest : List ℕ
  pub cut : AreCut bytes pieces rest
  pub place : at ≡ place_after 0 pieces
  pub some : rest ≢ []
  pub none : (piece : Piece) (after : List ℕ) → IsFirst rest piece after → ⊥

-- The cause of an error: a bad byte is one. Want of memory has none in the file.
abbrev pub IsCause : List ℕ → TextEnd → Type 0
IsCause bytes (BadByte at) = IsBadByte bytes at
IsCause bytes NoMemory = Unit {0}
