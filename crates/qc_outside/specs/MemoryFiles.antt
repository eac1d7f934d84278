-- Files that lie in memory, as pairs of a name and a content.
use Rattle.std.specs.Prelude.{ℕ, List, map, String, Vec, string_bytes, ◌≡◌, ◌≢◌, ◌<◌, ◌⊎◌, None, Some}
use Rattle.std.specs.List.{slice_get}
use Rattle.std.specs.FinMap.{from_entries, get}
use Rattle.std.specs.declared.alloc.Global.{Global}
use Rattle.qc_outside.specs.Calls.{NextFails, calls_of, failing_of}
use Rattle.qc_outside.specs.Files.{Files}
use Rattle.qc_outside.specs.declared.memory_files.MemShelf.{MemShelf}

-- a name and a content
abbrev pub File : Type 0
File = String Global × Vec ℕ Global

-- their bytes
abbrev pub entries_of : List File → List (List ℕ × List ℕ)
entries_of files = map (λ file. (string_bytes file.0, file.1.items)) files

-- the map of the pairs; a name has the content of its first pair
abbrev pub files_from : List File → Files
files_from files = from_entries (entries_of files)

-- the files of a shelf
abbrev pub files_of : MemShelf → Files
files_of shelf = files_from shelf.files.items

-- The next read of a file fails: its number is one of those that are to fail, or the file isn't there.
abbrev pub FailsToRead : MemShelf → List ℕ → Type 0
FailsToRead shelf name =
    NextFails (failing_of shelf.calls) (calls_of shelf.calls) ⊎ (get (files_of shelf) name ≡ None)

-- no pair before the place has the name
abbrev pub NoneBefore : List File → List ℕ → ℕ → Type 0
NoneBefore files name place = (k : ℕ) → k < place → (file : File) → slice_get files k ≡ Some file →
    string_bytes file.0 ≢ name

-- the pair at the place is the first of the name
pub record IsFirst (files : List File) (name : List ℕ) (place : ℕ) : Type 0 where
  pub file : File
  pub here : slice_get files place ≡ Some file
  pub named : string_bytes file.0 ≡ name
  pub before : NoneBefore files name place
