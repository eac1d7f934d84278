-- What the laws of the crates below say of texts, programs, images and inputs.
use Rattle.std.specs.Prelude.{ℕ, ◌≡◌, ◌≢◌, List, ◌++◌, length, Some, All}
use Rattle.qc_text.specs.declared.token.Kind.TheVariants.{End}
use Rattle.qc_text.specs.declared.token.Token.{Token}
use Rattle.qc_text.specs.Pieces.{AreTokens, IsBadByte, token_at}
use Rattle.qc_terms.specs.declared.image.Image.{Image}
use Rattle.qc_descr.specs.declared.description.Description.{Description}
use Rattle.qc_descr.specs.Loading.{FitsMachine}
use Rattle.qc_layout.specs.ImageFaults.{IsBadImage, IsFaultyPlace}
use Rattle.qc_layout.specs.ImageFile.{HasFile, image_bytes}
use Rattle.qc_machine.specs.InputFile.{IsBadInput, IsInput}
use Rattle.qc_constants.specs.declared.program.ConstantProgram.{ConstantProgram}
use Rattle.qc_constants.specs.ConstantProgram.{IsTextOf}

-- a file has one list of tokens or one bad byte, and the end stands last and nowhere else
pub record TokenLaws : Type 0 where
  pub one : (bytes : List ℕ) (tokens others : List Token) → AreTokens bytes tokens → AreTokens bytes others
      → tokens ≡ others
  pub bad : (bytes : List ℕ) (at place : ℕ) → IsBadByte bytes at → IsBadByte bytes place → at ≡ place
  pub none : (bytes : List ℕ) (tokens : List Token) (at : ℕ) → AreTokens bytes tokens → IsBadByte bytes at → ⊥
  pub end : (bytes : List ℕ) (tokens : List Token) → AreTokens bytes tokens
      → (front : List Token) × (tokens ≡ front ++ token_at (length bytes) (Some End) (length bytes))
      × All (λ token. token.kind ≢ End) front

-- a file is that of one image, or has a first faulty place, and not both
pub record ImageLaws : Type 0 where
  pub one : (a b : Image) → HasFile a → HasFile b → image_bytes a ≡ image_bytes b → a ≡ b
  pub bad : (d : Description) (bytes : List ℕ) (a b : ℕ) → IsBadImage d bytes a → IsBadImage d bytes b → a ≡ b
  pub none : (d : Description) (image : Image) (at : ℕ) → HasFile image → FitsMachine d image
      → IsFaultyPlace d (image_bytes image) at → ⊥

-- a file is that of one input, or has a first faulty place, and not both
pub record InputLaws : Type 0 where
  pub one : (word : ℕ) (bytes words others : List ℕ) → IsInput word bytes words → IsInput word bytes others
      → words ≡ others
  pub bad : (word : ℕ) (bytes : List ℕ) (a b : ℕ) → IsBadInput word bytes a → IsBadInput word bytes b → a ≡ b
  pub none : (word : ℕ) (bytes words : List ℕ) (at : ℕ) → IsInput word bytes words → IsBadInput word bytes at → ⊥

-- all of them
pub record LowerLaws : Type 0 where
  pub tokens : TokenLaws
  pub images : ImageLaws
  pub inputs : InputLaws
  pub program : (bytes : List ℕ) (p q : ConstantProgram) → IsTextOf bytes p → IsTextOf bytes q → p ≡ q
