-- Writes as the code holds them between reading all of them and performing them.
use Rattle.std.specs.Prelude.{ℕ, ◌+◌, ◌<◌, ◌≤◌, ◌^◌, List, [], ◌∷◌, slice_index, length}
use Rattle.std.specs.List.{flat_map}
use Rattle.qc_terms.specs.Effects.{Write}
use Rattle.qc_terms.specs.Effects as effects
use Rattle.qc_terms.specs.State.{Context}
use Rattle.qc_flat.specs.declared.run.PendingWrite.{PendingWrite}
use Rattle.qc_flat.specs.declared.run.PendingWrite.TheVariants.{Skipped, ToCell, ToMemory, ToCounter}

-- the write, or none where the effect's guard is false
abbrev pub writes_of_pending : PendingWrite → List Write
writes_of_pending Skipped = []
writes_of_pending (ToCell space index word) = effects.ToCell space index word ∷ []
writes_of_pending (ToMemory address count word) = effects.ToMemory address count word ∷ []
writes_of_pending (ToCounter word) = effects.ToCounter word ∷ []

abbrev pub writes_of_all : List PendingWrite → List Write
writes_of_all pending = flat_map writes_of_pending pending

-- The write can be performed in a machine with this word, these spaces and so many bytes of memory: the cell is there,
-- and takes the word; the bytes are inside the memory; the program counter is a word.
abbrev pub IsPendingWrite : Context → ℕ → PendingWrite → Type 0
IsPendingWrite context size Skipped = Unit {0}
IsPendingWrite context size (ToCell space index word) =
    (space < length context.widths) × (index < slice_index context.counts space) × (word < 2 ^ slice_index context.widths space)
IsPendingWrite context size (ToMemory address count word) = address + count ≤ size
IsPendingWrite context size (ToCounter word) = word < 2 ^ context.word
