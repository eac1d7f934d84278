-- What it means that a program was compiled.
use Rattle.std.specs.Prelude.{ℕ, ◌≡◌, List, Option, IfSome, IsSomeAnd}
use Rattle.qc_terms.specs.declared.image.Image.{Image}
use Rattle.qc_descr.specs.declared.description.Description.{Description}
use Rattle.qc_descr.specs.Loading.{FitsMachine}
use Rattle.qc_descr.specs.Valid.{IsValid}
use Rattle.qc_constants.specs.declared.program.ConstantProgram.{ConstantProgram}
use Rattle.qc_constants.specs.Agreement.{Agrees}
use Rattle.qc_outside.specs.Files.{Files, content_of, name_of}
use Rattle.qc_layout.specs.ImageFile.{image_bytes}
use Rattle.qc_core.specs.Compilation.{compile_reading}

-- The files of numbers 1 to 4, as they were before, are the texts of a valid description, what stands for its tables, and a
-- program. The file of number 5, as it is after, is an image that fits the machine and agrees with the program on every
-- input.
pub record IsCompiled (names : List (List ℕ)) (before after : Files) : Type 0 where
  pub description : Description
  pub program : ConstantProgram
  pub read : (compile_reading names).Means before (description, program)
  pub valid : IsValid description
  pub image : Image
  pub fits : FitsMachine description image
  pub file : content_of after (name_of names 5) ≡ image_bytes image
  pub agrees : Agrees description program image

-- the same where the files are known; where they were known before, they are known after
abbrev pub IsKnownCompiled : List (List ℕ) → Option Files → Option Files → Type 0
IsKnownCompiled names before after = IfSome before (λ b. IsSomeAnd after (λ a. IsCompiled names b a))
