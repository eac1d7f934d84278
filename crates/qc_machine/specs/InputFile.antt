-- The file of an input, and why a file is none.
use Rattle.std.specs.Prelude.{ℕ, ◌≡◌, ◌≢◌, ◌<◌, ◌^◌, ◌⊎◌, List, [], ◌∷◌, ◌++◌, All, map}
use Rattle.qc_text.specs.declared.token.Kind.TheVariants.{End, Number}
use Rattle.qc_text.specs.declared.token.Token.{Token}
use Rattle.qc_text.specs.Numerals.{number_of}
use Rattle.qc_text.specs.Pieces.{AreTokens, IsBadByte}
use Rattle.qc_text.specs.Tokens.{token_text}
use Rattle.qc_machine.specs.declared.input_file.InputEnd.{InputEnd}
use Rattle.qc_machine.specs.declared.input_file.InputEnd.TheVariants.{BadInput, NoMemory}

-- the number that a token of a file stands for
abbrev pub number_in : List ℕ → Token → ℕ
number_in bytes token = number_of (token_text bytes token)

-- a token that is a number, and a word of this width
abbrev pub IsWordToken : ℕ → List ℕ → Token → Type 0
IsWordToken word bytes token = (token.kind ≡ Number) × (number_in bytes token < 2 ^ word)

-- Words of a width and then the end are a file's tokens, and these are the words.
pub record IsInput (word : ℕ) (bytes words : List ℕ) : Type 0 where
  pub front : List Token
  pub last : Token
  pub cut : AreTokens bytes (front ++ last ∷ [])
  pub ended : last.kind ≡ End
  pub numbers : All (IsWordToken word bytes) front
  pub values : words ≡ map (number_in bytes) front

-- The token that stands at a place is neither such a word nor the end, and all before it are words.
pub record IsWrongToken (word : ℕ) (bytes : List ℕ) (at : ℕ) : Type 0 where
  pub front : List Token
  pub token : Token
  pub rest : List Token
  pub cut : AreTokens bytes (front ++ token ∷ rest)
  pub numbers : All (IsWordToken word bytes) front
  pub some : token.kind ≢ End
  pub wrong : IsWordToken word bytes token → ⊥
  pub place : at ≡ token.start

-- The file has no tokens because of the byte at a place, or the first of its tokens that is wrong stands there.
abbrev pub IsBadInput : ℕ → List ℕ → ℕ → Type 0
IsBadInput word bytes at = IsBadByte bytes at ⊎ IsWrongToken word bytes at

-- The cause of an error: a bad place is one. Want of memory has none in the file.
abbrev pub IsInputRefused : ℕ → List ℕ → InputEnd → Type 0
IsInputRefused word bytes (BadInput at) = IsBadInput word bytes at
IsInputRefused word bytes NoMemory = Unit {0}
