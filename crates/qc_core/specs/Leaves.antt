-- What an answer to a command leaves of files and lines.
use Rattle.std.specs.Prelude.{ℕ, ◌≡◌, ◌≤◌, ◌⊎◌, List, [], ◌∷◌, Option, None, Some, IfSome}
use Rattle.std.specs.Option.{option_map}
use Rattle.std.specs.FinMap.{insert}
use Rattle.qc_outside.specs.FaultCounts.{Rose}
use Rattle.qc_outside.specs.Files.{Files, OthersStayKnown}
use Rattle.qc_core.specs.declared.answer.Fault.{Fault}
use Rattle.qc_core.specs.declared.answer.Status.{Status}
use Rattle.qc_core.specs.declared.answer.Status.TheVariants.{Done, Refused, Usage, ReadFault, WriteFault, OutFault, NoMemory}
use Rattle.qc_core.specs.Lines.{refusal_line}
use Rattle.qc_core.specs.Puts.{ArePut, FailsToPut, IsQuiet, Output, StopsPutting, output_of}
use Rattle.qc_core.specs.CommandFiles.{Reading}
use Rattle.qc_core.specs.Task.{IsMade, IsRefusedLate, Product, Task}

-- the files of a shelf, where they are known, its count of faults, and an output
pub record Outside : Type 0 where
  pub files : Option Files
  pub shelf_faults : ℕ
  pub out : Output

abbrev pub outside_of : Option Files → ℕ → Option (List (List ℕ)) → ℕ → Outside
outside_of files shelf_faults pieces out_faults =
    record { files = files; shelf_faults = shelf_faults; out = output_of pieces out_faults }

-- no file was written, and nothing was put
abbrev pub IsUntouched : Outside → Outside → Type 0
IsUntouched old new = (new.files ≡ old.files) × IsQuiet old.out new.out

-- the file is written, if there is one, and all others are as before
abbrev pub IsStored : Option (List ℕ × List ℕ) → Option Files → Option Files → Type 0
IsStored None old new = new ≡ old
IsStored (Some file) old new = new ≡ option_map (λ files. insert files file.0 file.1) old

-- there is a file, of which nothing is known, and all others are as before
abbrev pub MayBeSpoiled : Option (List ℕ × List ℕ) → Option Files → Option Files → Type 0
MayBeSpoiled None old new = ⊥
MayBeSpoiled (Some file) old new = OthersStayKnown file.0 old new

-- What it comes to that a product's file is written and then its lines are put.
abbrev pub Performs : Product → Outside → Outside → Status → Type 0
Performs product old new Done = IsStored product.file old.files new.files × ArePut product.lines old.out new.out
Performs product old new WriteFault =
    Rose old.shelf_faults new.shelf_faults × MayBeSpoiled product.file old.files new.files × IsQuiet old.out new.out
Performs product old new OutFault = IsStored product.file old.files new.files × FailsToPut product.lines old.out new.out
Performs product old new NoMemory =
    IsUntouched old new ⊎ (IsStored product.file old.files new.files × StopsPutting product.lines old.out new.out)
Performs product old new _ = ⊥

-- The files are refused for a fault of one of them, or of what they mean.
abbrev pub IsRefused : Task → Option Files → Fault → Type 0
IsRefused task files fault =
    (task.reading.MayHave fault × IfSome files (λ fs. (file : ℕ) × task.reading.Refused fs file fault))
    ⊎ IsRefusedLate task files fault

-- What an answer to a command says of the files that it reads, and what it leaves. Nothing is written or put before all
-- files were read.
abbrev pub Leaves : Task → Outside → Outside → Status → Type 0
Leaves task old new (Refused fault) =
    IsRefused task old.files fault × (new.files ≡ old.files)
    × (ArePut (refusal_line fault ∷ []) old.out new.out ⊎ FailsToPut (refusal_line fault ∷ []) old.out new.out)
Leaves task old new (ReadFault file) =
    Rose old.shelf_faults new.shelf_faults × task.reading.Reads file
    × IfSome old.files (λ files. task.reading.Before files file) × IsUntouched old new
Leaves task old new (Usage word) = ⊥
Leaves task old new NoMemory =
    IsUntouched old new ⊎ ((product : Product) × IsMade task old.files product × Performs product old new NoMemory)
Leaves task old new status = (product : Product) × IsMade task old.files product × Performs product old new status

-- No fault of the shelf was counted, unless the status tells one.
abbrev pub KeepsShelfFaults : Status → ℕ → ℕ → Type 0
KeepsShelfFaults (ReadFault file) before now = Unit {0}
KeepsShelfFaults WriteFault before now = Unit {0}
KeepsShelfFaults _ before now = now ≡ before

-- No fault of the output was counted, unless the status tells one, or is a refusal, whose line may not have been put.
abbrev pub KeepsOutFaults : Status → ℕ → ℕ → Type 0
KeepsOutFaults OutFault before now = Unit {0}
KeepsOutFaults (Refused fault) before now = Unit {0}
KeepsOutFaults _ before now = now ≡ before

-- What the status is where the file of this number is refused for this fault: that refusal, or want of memory, or the
-- failure of the read of a file that is not after it, while the shelf's count of faults rose.
abbrev pub IsRefusalStatus : {A : Type 0} → Reading A → ℕ → Fault → ℕ → ℕ → Status → Type 0
IsRefusalStatus r file fault before now (Refused other) = other ≡ fault
IsRefusalStatus r file fault before now (ReadFault k) = r.Reads k × (k ≤ file) × Rose before now
IsRefusalStatus r file fault before now NoMemory = Unit {0}
IsRefusalStatus r file fault before now _ = ⊥

-- What the status is where files are good, and no fault of the shelf or the output was counted.
abbrev pub IsGoodStatus : Task → Files → Status → Type 0
IsGoodStatus task files Done = Unit {0}
IsGoodStatus task files NoMemory = Unit {0}
IsGoodStatus task files (Refused fault) =
    (input : task.Input) × task.reading.Means files input × task.MayRefuse input fault
IsGoodStatus task files _ = ⊥
