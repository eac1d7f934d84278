-- What the functions come to that read files, and those that put a line.
use Rattle.std.specs.Prelude.{ℕ, ◌≡◌, ◌<◌, ◌≤◌, ◌⊎◌, List, [], ◌∷◌, length}
use Rattle.std.specs.Prelude.{Option, IfSome, Result, IfErr, IfOk, MatchResult}
use Rattle.qc_outside.specs.FaultCounts.{Rose}
use Rattle.qc_outside.specs.Files.{Files, content_of, file_limit, input_of, name_of}
use Rattle.qc_core.specs.declared.answer.Fault.{Fault}
use Rattle.qc_core.specs.declared.answer.Fault.TheVariants.{TooLong}
use Rattle.qc_core.specs.declared.answer.Status.{Status}
use Rattle.qc_core.specs.declared.answer.Status.TheVariants.{Done, Refused, ReadFault, OutFault, NoMemory}
use Rattle.qc_core.specs.Leaves.{KeepsShelfFaults}
use Rattle.qc_core.specs.Lines.{refusal_line}
use Rattle.qc_core.specs.Puts.{ArePut, FailsToPut, IsQuiet, Output, StopsPutting}
use Rattle.qc_core.specs.CommandFiles.{Reading}

-- How the reading of one file, of this number and name, stops: it is too long, or could not be read. The counts are
-- those of the shelf's faults before and after.
abbrev pub StopsToRead : ℕ → List ℕ → Option Files → ℕ → ℕ → Status → Type 0
StopsToRead file name known before now (Refused fault) =
    (fault ≡ TooLong file) × IfSome known (λ files. file_limit < length (content_of files name))
StopsToRead file name known before now (ReadFault k) = (k ≡ file) × Rose before now
StopsToRead file name known before now NoMemory = Unit {0}
StopsToRead file name known before now _ = ⊥

-- What a function comes to that reads the file of this number: its result stands for the content, or tells how the reading
-- stopped. The files are as before, and no fault is counted that a status doesn't tell.
pub record ReadsBytes {X : Type 0} (names : List (List ℕ)) (file : ℕ) (bytes_of : X → List ℕ) (result : Result X Status)
    (old new : Option Files) (before now : ℕ) : Type 0 where
  pub content : IfOk result (λ x. IfSome old (λ files. bytes_of x ≡ input_of files names file))
  pub limit : IfOk result (λ x. length (bytes_of x) ≤ file_limit)
  pub stops : IfErr result (StopsToRead file (name_of names file) old before now)
  pub files : new ≡ old
  pub kept : MatchResult result (λ x. now ≡ before) (λ status. KeepsShelfFaults status before now)
  pub later : before ≤ now

-- how it stops to find out what bytes mean that have faults like these
abbrev pub StopsFor : (Fault → Type 0) → Status → Type 0
StopsFor IsFault (Refused fault) = IsFault fault
StopsFor IsFault NoMemory = Unit {0}
StopsFor IsFault _ = ⊥

-- how a reading of files stops
abbrev pub StopsReading : {A : Type 0} → Reading A → Option Files → ℕ → ℕ → Status → Type 0
StopsReading r known before now (Refused fault) =
    r.MayHave fault × IfSome known (λ files. (file : ℕ) × r.Refused files file fault)
StopsReading r known before now (ReadFault file) =
    Rose before now × r.Reads file × IfSome known (λ files. r.Before files file)
StopsReading r known before now NoMemory = Unit {0}
StopsReading r known before now _ = ⊥

-- What a function comes to that reads files: its result stands for what they mean, or tells how the reading stopped. The
-- files are as before, and no fault is counted that a status doesn't tell.
pub record ReadsFiles {A X : Type 0} (r : Reading A) (meaning : X → A) (result : Result X Status)
    (old new : Option Files) (before now : ℕ) : Type 0 where
  pub read : IfOk result (λ x. IfSome old (λ files. r.Means files (meaning x)))
  pub stops : IfErr result (StopsReading r old before now)
  pub files : new ≡ old
  pub kept : MatchResult result (λ x. now ≡ before) (λ status. KeepsShelfFaults status before now)
  pub later : before ≤ now

-- how the putting of lines stops
abbrev pub StopsToPut : List (List ℕ) → Output → Output → Status → Type 0
StopsToPut lines old new OutFault = FailsToPut lines old new
StopsToPut lines old new NoMemory = StopsPutting lines old new
StopsToPut lines old new _ = ⊥

-- what the putting of lines comes to
abbrev pub Puts : List (List ℕ) → Output → Output → Status → Type 0
Puts lines old new Done = ArePut lines old new
Puts lines old new status = StopsToPut lines old new status

-- What is put of the status with which a reading stopped: the line of a refusal, and nothing of all else.
abbrev pub ReportsStop : Status → Output → Output → Status → Type 0
ReportsStop (Refused fault) old new (Refused other) =
    (other ≡ fault) × (ArePut (refusal_line fault ∷ []) old new ⊎ FailsToPut (refusal_line fault ∷ []) old new)
ReportsStop (Refused fault) old new NoMemory = IsQuiet old new
ReportsStop (Refused fault) old new _ = ⊥
ReportsStop status old new other = (other ≡ status) × IsQuiet old new
