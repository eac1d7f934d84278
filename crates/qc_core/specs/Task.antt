-- What a command means: what it reads, for what it refuses that, and what it makes of it.
use Rattle.std.specs.Prelude.{ℕ, List, Option, None, Some, IfSome}
use Rattle.qc_outside.specs.Files.{Files}
use Rattle.qc_core.specs.declared.answer.Fault.{Fault}
use Rattle.qc_core.specs.CommandFiles.{Reading}

-- a file by its name and its bytes, if one is written, and then the lines that are put
pub record Product : Type 0 where
  pub file : Option (List ℕ × List ℕ)
  pub lines : List (List ℕ)

abbrev pub lines_alone : List (List ℕ) → Product
lines_alone lines = record { file = None; lines = lines }

abbrev pub file_and_lines : List ℕ → List ℕ → List (List ℕ) → Product
file_and_lines name bytes lines = record { file = Some (name, bytes); lines = lines }

pub record Task : Type 1 where
  -- what its files mean
  pub Input : Type 0
  pub reading : Reading Input
  -- a fault for which it may refuse files that are good, of what they mean
  pub MayRefuse : Input → Fault → Type 0
  -- what it makes of what they mean
  pub Makes : Input → Product → Type 0
  -- Where this holds of files, they are good or refused: a number stands for a byte where it is below 256.
  pub AreBytes : Files → Type 0

-- the files mean something, where they are known, of which the command makes this
pub record IsMade (task : Task) (files : Option Files) (product : Product) : Type 0 where
  pub input : task.Input
  pub read : IfSome files (λ fs. task.reading.Means fs input)
  pub makes : task.Makes input product

-- the files mean something, where they are known, and are refused for this fault of it
pub record IsRefusedLate (task : Task) (files : Option Files) (fault : Fault) : Type 0 where
  pub input : task.Input
  pub read : IfSome files (λ fs. task.reading.Means fs input)
  pub refuses : task.MayRefuse input fault
