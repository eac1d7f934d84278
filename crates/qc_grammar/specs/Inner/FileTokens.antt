-- The tokens of a file before they have classes.
use Rattle.std.specs.Prelude.{ℕ, ◌≡◌, ◌≤◌, List, ◌++◌, Some, length, slice_get}
use Rattle.qc_text.specs.declared.token.Kind.TheVariants.{End}
use Rattle.qc_text.specs.declared.token.Token.{Token}
use Rattle.qc_text.specs.Pieces.{AreTokens, IsBadByte, token_at}

-- These are the tokens of the file. It has no others, and no bad byte.
pub record AreFileTokens (bytes : List ℕ) (tokens : List Token) : Type 0 where
  pub are : AreTokens bytes tokens
  pub only : (others : List Token) → AreTokens bytes others → tokens ≡ others
  pub whole : (at : ℕ) → IsBadByte bytes at → ⊥
  pub inside : (i : ℕ) (token : Token) → slice_get tokens i ≡ Some token
      → (token.start ≤ token.end) × (token.end ≤ length bytes)
  pub front : List Token
  pub ended : tokens ≡ front ++ token_at (length bytes) (Some End) (length bytes)
