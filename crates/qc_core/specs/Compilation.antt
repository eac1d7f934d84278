-- What `compile` reads, and the image that it writes.
use Rattle.std.specs.Prelude.{ℕ, ◌≡◌, List, [], ◌∷◌, ◌++◌, codes}
use Rattle.qc_terms.specs.declared.image.Image.{Image}
use Rattle.qc_descr.specs.declared.description.Description.{Description}
use Rattle.qc_descr.specs.Valid.{IsValid}
use Rattle.qc_layout.specs.ImageFile.{image_bytes}
use Rattle.qc_outside.specs.Files.{name_of}
use Rattle.qc_shipped.specs.declared.tin32.TheConstants.{TIN32_LRTL, TIN32_SLED}
use Rattle.qc_widths.specs.declared.machine.Machine.{Machine}
use Rattle.qc_constants.specs.declared.program.ConstantProgram.{ConstantProgram}
use Rattle.qc_constants.specs.Code.{image_of}
use Rattle.qc_constants.specs.ConstantProgram.{IsConstantProgram, IsTextOf}
use Rattle.qc_constants.specs.Constants.{HasConstants}
use Rattle.qc_core.specs.declared.answer.Fault.{Fault}
use Rattle.qc_core.specs.declared.answer.Fault.TheVariants.{NotYet}
use Rattle.qc_core.specs.Lines.{compiled_line}
use Rattle.qc_core.specs.CommandFiles.{Reading, Step, file_step, test_step, then_step}
use Rattle.qc_core.specs.Task.{Product, Task, file_and_lines}
use Rattle.qc_core.specs.Texts.{MeansDescription, MeansMachine, description_reading}

-- the description is that of the shipped texts of tin32
pub record IsShipped (d : Description) : Type 0 where
  pub machine : Machine
  pub means : MeansMachine TIN32_LRTL.now machine
  pub makes : MeansDescription machine TIN32_SLED.now d

-- It is that one, and it has the instructions that constants are compiled into.
pub record IsTin32 (d : Description) : Type 0 where
  pub shipped : IsShipped d
  pub constants : HasConstants d

-- the text that stands for the tables
abbrev pub tables_text : List ℕ
tables_text = codes "tables tin32 1;" ++ 10 ∷ []

-- the file of an image, and the line that tells its sizes
abbrev pub image_and_line : List ℕ → Image → Product
image_and_line name image = file_and_lines name (image_bytes image) (compiled_line image ∷ [])

-- The file of this number hasn't the one form that is understood so far.
abbrev pub IsUnformed : Type 0 → ℕ → Fault → Type 0
IsUnformed HasForm form fault = (HasForm → ⊥) × (fault ≡ NotYet form)

-- the description of files 1 and 2 is that of tin32
abbrev pub tin32_step : Step Description Description
tin32_step = test_step 2 IsTin32 (λ d. IsUnformed (IsTin32 d) 5)

abbrev pub tin32_reading : List (List ℕ) → Reading Description
tin32_reading names = then_step (description_reading names) tin32_step

-- and file 3 stands for its tables
abbrev pub tables_step : List (List ℕ) → Step Description Description
tables_step names =
    file_step names 3
    (λ d bytes (tables : Unit {0}). bytes ≡ tables_text) (λ d form bytes. IsUnformed (bytes ≡ tables_text) form)
    (λ d tables. d)

abbrev pub tables_reading : List (List ℕ) → Reading Description
tables_reading names = then_step (tin32_reading names) (tables_step names)

-- the bytes spell some program of constants
abbrev pub SpellsProgram : List ℕ → Type 0
SpellsProgram bytes = (p : ConstantProgram) × IsTextOf bytes p

-- and file 4 spells one
abbrev pub program_step : List (List ℕ) → Step Description (Description × ConstantProgram)
program_step names =
    file_step names 4
    (λ d. IsTextOf) (λ d form bytes. IsUnformed (SpellsProgram bytes) form) (λ d p. (d, p))

abbrev pub compile_reading : List (List ℕ) → Reading (Description × ConstantProgram)
compile_reading names = then_step (tables_reading names) (program_step names)

-- the file of this name, with the image of a program, and its line
pub record MakesImage (name : List ℕ) (x : Description × ConstantProgram) (product : Product) : Type 0 where
  pub valid : IsValid x.0
  pub constants : HasConstants x.0
  pub small : IsConstantProgram x.1
  pub is : product ≡ image_and_line name (image_of x.0 x.1)

-- `compile` reads these files, and writes file 5.
abbrev pub compile_task : List (List ℕ) → Task
compile_task names = record {
  Input = Description × ConstantProgram;
  reading = compile_reading names;
  MayRefuse = λ x fault. ⊥;
  Makes = MakesImage (name_of names 5);
  AreBytes = λ files. Unit {0};
}
