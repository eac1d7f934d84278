-- What a command leaves whose files were read, or were not.
use Rattle.std.proofs.Common.{◌≡◌, ◌⊎◌, ℕ, sym, subst, inl, inr, ⊎_elim}
use Rattle.std.specs.Prelude.{Some, Err}
use Rattle.qc_outside.specs.FaultCounts.{Rose}
use Rattle.qc_outside.specs.Files.{Files}
use Rattle.qc_core.specs.declared.answer.Fault.{Fault}
use Rattle.qc_core.specs.declared.answer.Status.{Status}
use Rattle.qc_core.specs.declared.answer.Status.TheVariants.{Done, Refused, Usage, ReadFault, WriteFault, OutFault, NoMemory}
use Rattle.qc_core.specs.Inner.Reading.{Puts, ReadsFiles, ReportsStop}
use Rattle.qc_core.specs.Leaves.{IsGoodStatus, IsRefusalStatus, IsStored, Leaves, Outside, Performs}
use Rattle.qc_core.specs.Task.{IsMade, Product, Task}
use Rattle.qc_core.proofs.Readings.{IsExact, known_of}

-- a command whose reading stopped
pub leaves_stopped : {X : Type 0} (task : Task) (m : X → task.Input) (old new : Outside) (status other : Status) → ReadsFiles task.reading m (Err status) old.files new.files old.shelf_faults new.shelf_faults → ReportsStop status old.out new.out other → Leaves task old new other
leaves_stopped task m old new (Refused fault) (Refused other) reads reports =
    subst (λ f. Leaves task old new (Refused f)) (sym reports.0) (inl reads.stops, reads.files, reports.1)
leaves_stopped task m old new (Refused fault) NoMemory reads reports = inl (reads.files, reports)
leaves_stopped task m old new (Refused fault) other reads reports = absurd reports
leaves_stopped task m old new (ReadFault file) other reads reports =
    subst (λ s. Leaves task old new s) (sym reports.0) (reads.stops.0, reads.stops.1, reads.stops.2, (reads.files, reports.1))
leaves_stopped task m old new NoMemory other reads reports =
    subst (λ s. Leaves task old new s) (sym reports.0) (inl (reads.files, reports.1))
leaves_stopped task m old new status other reads reports = absurd reads.stops

-- a command that did what its files ask for
pub leaves_performed : (task : Task) (old new : Outside) (product : Product) (status : Status) → IsMade task old.files product → Performs product old new status → Leaves task old new status
leaves_performed task old new product Done made performs = (product, made, performs)
leaves_performed task old new product WriteFault made performs = (product, made, performs)
leaves_performed task old new product OutFault made performs = (product, made, performs)
leaves_performed task old new product NoMemory made performs = inr (product, made, performs)
leaves_performed task old new product status made performs = absurd performs

-- the putting of lines, after the file was written, if there is one
pub performs_stored : (product : Product) (old new : Outside) (status : Status) → IsStored product.file old.files new.files → Puts product.lines old.out new.out status → Performs product old new status
performs_stored product old new Done stored puts = (stored, puts)
performs_stored product old new OutFault stored puts = (stored, puts)
performs_stored product old new NoMemory stored puts = inr (stored, puts)
performs_stored product old new status stored puts = absurd puts

-- where a file is refused nothing is made of the files, and no file after it is read
pub refused_status : (task : Task) → IsExact task.reading → (files : Files) (file : ℕ) (fault : Fault) (old new : Outside) (status : Status) → old.files ≡ Some files → task.reading.Refused files file fault → Leaves task old new status → IsRefusalStatus task.reading file fault old.shelf_faults new.shelf_faults status
refused_status task exact files file fault old new status known refused leaves = by_status status leaves
  where
    not_made : {P : Type 0} (product : Product) → IsMade task old.files product → P
    not_made product made =
        absurd (exact.not_both files made.input file fault (known_of (λ fs. task.reading.Means fs made.input) files old.files known made.read) refused)

    by_status : (s : Status) → Leaves task old new s → IsRefusalStatus task.reading file fault old.shelf_faults new.shelf_faults s
    by_status (Refused other) leaves =
        ⊎_elim
        (λ early. let found = known_of (λ fs. (n : ℕ) × task.reading.Refused fs n other) files old.files known early.1 in
        (exact.one_fault files found.0 file other fault found.1 refused).1)
        (λ late. absurd (exact.not_both files late.input file fault (known_of (λ fs. task.reading.Means fs late.input) files old.files known late.read) refused))
        leaves.0
    by_status (ReadFault k) leaves =
        (leaves.1, exact.in_order files file fault k (known_of (λ fs. task.reading.Before fs k) files old.files known leaves.2) refused, leaves.0)
    by_status (Usage word) leaves = leaves
    by_status Done leaves = not_made leaves.0 leaves.1
    by_status WriteFault leaves = not_made leaves.0 leaves.1
    by_status OutFault leaves = not_made leaves.0 leaves.1
    by_status NoMemory leaves = tt

-- with no count that rose a command whose files are good is done, runs out of memory, or refuses what they mean
pub good_status : (task : Task) → IsExact task.reading → (files : Files) (input : task.Input) (old new : Outside) (status : Status) → old.files ≡ Some files → task.reading.Means files input → (Rose old.shelf_faults new.shelf_faults → ⊥) → (Rose old.out.faults new.out.faults → ⊥) → Leaves task old new status → IsGoodStatus task files status
good_status task exact files input old new Done known means shelf put leaves = tt
good_status task exact files input old new NoMemory known means shelf put leaves = tt
good_status task exact files input old new (Refused fault) known means shelf put leaves =
    ⊎_elim
    (λ early. let found = known_of (λ fs. (n : ℕ) × task.reading.Refused fs n fault) files old.files known early.1 in
    absurd (exact.not_both files input found.0 fault means found.1))
    (λ late. (late.input, known_of (λ fs. task.reading.Means fs late.input) files old.files known late.read, late.refuses))
    leaves.0
good_status task exact files input old new (Usage word) known means shelf put leaves = leaves
good_status task exact files input old new (ReadFault file) known means shelf put leaves = absurd (shelf leaves.0)
good_status task exact files input old new WriteFault known means shelf put leaves = absurd (shelf leaves.2.0)
good_status task exact files input old new OutFault known means shelf put leaves = absurd (put leaves.2.1.rose)
