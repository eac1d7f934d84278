-- Where a file differs from every image file of a machine.
use Rattle.std.specs.Prelude.{ℕ, ◌≡◌, ◌≢◌, ◌<◌, ◌≤◌, ◌+◌, ◌-◌, ◌⊎◌, List, length, take, drop, min, slice_get, slice_index, Some, Result, Ok, Err}
use Rattle.std.specs.Int.{from_le_bytes, w32}
use Rattle.qc_terms.specs.declared.image.Image.{Image}
use Rattle.qc_descr.specs.declared.description.Description.{Description}
use Rattle.qc_descr.specs.Loading.{data_limit}
use Rattle.qc_layout.specs.declared.reading.ImageEnd.{ImageEnd}
use Rattle.qc_layout.specs.declared.reading.ImageEnd.TheVariants.{BadImage, NoMemory}
use Rattle.qc_layout.specs.ImageFile.{mark}

-- the mark of a file for a machine
abbrev pub mark_for : Description → List ℕ
mark_for d = mark d.facts.word d.facts.order

-- the number that stands in four bytes from a place on, the lowest first
unfoldable pub number_at : ℕ → List ℕ → ℕ
number_at place bytes = from_le_bytes w32 (take 4 (drop place bytes))

-- the lengths of the code and of the data, as a file tells them
abbrev pub code_length : List ℕ → ℕ
code_length bytes = number_at 8 bytes

abbrev pub data_length : List ℕ → ℕ
data_length bytes = number_at 12 bytes

-- the length of the whole file by these
abbrev pub wanted_length : List ℕ → ℕ
wanted_length bytes = 16 + (code_length bytes + data_length bytes)

-- the most bytes of data that an image for a machine may have
abbrev pub data_room : Description → ℕ
data_room d = min (d.data_end - d.code_end) data_limit

-- the byte at a place isn't that of the mark
abbrev pub IsWrongMark : Description → List ℕ → ℕ → Type 0
IsWrongMark d bytes at =
    (at < 8) × (at < length bytes) × (slice_index bytes at ≢ slice_index (mark_for d) at)

-- the length of the code stands there, and is more than the machine's code region has
abbrev pub IsTooMuchCode : Description → List ℕ → ℕ → Type 0
IsTooMuchCode d bytes at = (at ≡ 8) × (12 ≤ length bytes) × (d.code_end < code_length bytes)

-- the length of the data stands there, and is more than there is room for
abbrev pub IsTooMuchData : Description → List ℕ → ℕ → Type 0
IsTooMuchData d bytes at = (at ≡ 12) × (16 ≤ length bytes) × (data_room d < data_length bytes)

-- the file ends there, before its header or before what the header tells
abbrev pub IsTooShort : List ℕ → ℕ → Type 0
IsTooShort bytes at = (at ≡ length bytes) × ((length bytes < 16) ⊎ (length bytes < wanted_length bytes))

-- the file goes on there, behind what its header tells
abbrev pub IsTooLong : List ℕ → ℕ → Type 0
IsTooLong bytes at = (at ≡ wanted_length bytes) × (16 ≤ length bytes) × (wanted_length bytes < length bytes)

-- the last byte of the data stands there, and is zero
abbrev pub IsTrailingZero : List ℕ → ℕ → Type 0
IsTrailingZero bytes at =
    (at + 1 ≡ wanted_length bytes) × (0 < data_length bytes) × (16 ≤ length bytes) × (slice_get bytes at ≡ Some 0)

-- a place at which a file departs from those of the images for a machine
abbrev pub IsFaultyPlace : Description → List ℕ → ℕ → Type 0
IsFaultyPlace d bytes at =
    IsWrongMark d bytes at ⊎ IsTooMuchCode d bytes at ⊎ IsTooMuchData d bytes at
    ⊎ IsTooShort bytes at ⊎ IsTooLong bytes at ⊎ IsTrailingZero bytes at

-- the file has faulty places, and this is the first
pub record IsBadImage (d : Description) (bytes : List ℕ) (at : ℕ) : Type 0 where
  pub faulty : IsFaultyPlace d bytes at
  pub first : (place : ℕ) → place < at → IsFaultyPlace d bytes place → ⊥

-- The cause of an error: a bad place is one. Want of memory has none in the file.
abbrev pub IsImageRefused : Description → List ℕ → ImageEnd → Type 0
IsImageRefused d bytes (BadImage at) = IsBadImage d bytes at
IsImageRefused d bytes NoMemory = Unit {0}

-- the file was read as this image, or memory ran out
abbrev pub IsReadAs : Image → Result Image ImageEnd → Type 0
IsReadAs image (Ok found) = found ≡ image
IsReadAs image (Err (BadImage at)) = ⊥
IsReadAs image (Err NoMemory) = Unit {0}
