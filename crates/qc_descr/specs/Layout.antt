-- The layout of a machine: what its text has to give of the word, the memory, and the cells with a use of their own. The
-- parts are tested in order, and the first that doesn't fit is told.
use Rattle.std.specs.Prelude.{ℕ, ◌+◌, ◌/◌, ◌%◌, ◌^◌, List, [], ◌∷◌, map, sum, slice_get, slice_index, is_some}
use Rattle.std.specs.Prelude.{Bool, true, false, ◌&&◌, ◌||◌, not, nat_eq, nat_lt, nat_le, if◌then◌else◌, Option, None, Some}
use Rattle.std.specs.List.{list_all, list_any}
use Rattle.std.specs.Option.{option_map_or}
use Rattle.qc_descr.specs.declared.faults.Part.{Part}
use Rattle.qc_descr.specs.declared.faults.Part.TheVariants.{Word, Memory, Code, Data, Align, SlotBits, Frame, Link, Zero, Allocatable, Flags}
use Rattle.qc_descr.specs.declared.sketch.Parts.{Parts}
use Rattle.qc_descr.specs.declared.sketch.Sketch.{Sketch}
use Rattle.qc_descr.specs.Limits.{least_code, least_data, least_slot_bits, most_code, most_memory}
use Rattle.qc_descr.specs.Parts.{word_of}

-- a value is given, and passes the test
abbrev pub is_given_with : {A : Type 0} → (A → Bool) → Option A → Bool
is_given_with test given = option_map_or test given false

-- a value that passes the test where one is given
abbrev pub fits_if_given : {A : Type 0} → (A → Bool) → Option A → Bool
fits_if_given test given = option_map_or test given true

-- the same cell
abbrev pub is_same_cell : ℕ × ℕ → ℕ × ℕ → Bool
is_same_cell a b = nat_eq a.0 b.0 && nat_eq a.1 b.1

-- the cells of the space of this number are words of the machine
abbrev pub has_words : Parts → ℕ → Bool
has_words p space = nat_eq (slice_index (map (λ s. s.width) p.spaces) space) (word_of p.given)

-- the cells of the space of this number are flags
abbrev pub has_flags : Parts → ℕ → Bool
has_flags p space = is_given_with (λ s. s.flags) (slice_get p.spaces space)

-- one of the cells that the compiler may use: of this space, from the first to the last
abbrev pub is_allocatable : ℕ × ℕ × ℕ → ℕ × ℕ → Bool
is_allocatable a cell = nat_eq cell.0 a.0 && nat_le a.1 cell.1 && nat_le cell.1 a.2

-- an operation of one alternative without misfit has a multiple of so many bytes
abbrev pub is_aligned : ℕ → List Sketch → Bool
is_aligned align [] = true
is_aligned align (s ∷ []) = s.misfit || nat_eq (sum s.tokens / 8 % align) 0
is_aligned align (s ∷ t ∷ more) = true

abbrev pub fits_word : Parts → Bool
fits_word p = is_given_with (λ w. nat_eq w 16 || nat_eq w 32) p.given.word && is_some p.given.order

abbrev pub fits_memory : Parts → Bool
fits_memory p =
    is_given_with (λ m. nat_le m (2 ^ word_of p.given) && nat_le m most_memory
    && nat_eq (m % (word_of p.given / 8)) 0) p.given.memory

abbrev pub fits_code : Parts → Bool
fits_code p =
    is_given_with (λ c. nat_le least_code c && nat_le c most_code && fits_if_given (nat_lt c) p.given.data_end) p.given.code_end

-- the data region ends at least 8 bytes above the code region's end and below the memory's, where these are given
abbrev pub fits_data : Parts → Bool
fits_data p =
    is_given_with (λ e. fits_if_given (λ c. nat_le (c + least_data) e) p.given.code_end
    && fits_if_given (nat_lt e) p.given.memory) p.given.data_end

abbrev pub is_alignment : ℕ → Bool
is_alignment a = list_any (nat_eq a) (1 ∷ 2 ∷ 4 ∷ 8 ∷ 16 ∷ [])

abbrev pub fits_align : Parts → Bool
fits_align p = is_given_with (λ a. is_alignment a && list_all (is_aligned a) p.sketches) p.given.align

abbrev pub fits_slot_bits : Parts → Bool
fits_slot_bits p = is_given_with (λ n. nat_le least_slot_bits n && nat_le n (word_of p.given)) p.given.slot_bits

abbrev pub fits_frame : Parts → Bool
fits_frame p = is_given_with (λ cell. has_words p cell.0) p.given.frame

-- the cell isn't this one, where that is given
abbrev pub is_other_than : Option (ℕ × ℕ) → ℕ × ℕ → Bool
is_other_than given cell = fits_if_given (λ other. not (is_same_cell cell other)) given

abbrev pub fits_link : Parts → Bool
fits_link p = is_given_with (λ cell. has_words p cell.0 && is_other_than p.given.frame cell) p.given.link

abbrev pub fits_zero : Parts → Bool
fits_zero p =
    fits_if_given (λ cell. has_words p cell.0 && is_other_than p.given.frame cell
    && is_other_than p.given.link cell) p.given.«zero»

-- the cell is none of the allocatable ones
abbrev pub is_left_out : ℕ × ℕ × ℕ → Option (ℕ × ℕ) → Bool
is_left_out a given = fits_if_given (λ cell. not (is_allocatable a cell)) given

abbrev pub fits_allocatable : Parts → Bool
fits_allocatable p =
    is_given_with (λ a. nat_le a.1 a.2 && has_words p a.0 && not (has_flags p a.0)
    && fits_if_given (λ cell. nat_eq cell.0 a.0) p.given.frame
    && fits_if_given (λ cell. nat_eq cell.0 a.0) p.given.link
    && is_left_out a p.given.frame && is_left_out a p.given.link && is_left_out a p.given.«zero») p.given.allocatable

abbrev pub fits_flags : Parts → Bool
fits_flags p = list_all (λ s. not s.flags || nat_eq s.width 1) p.spaces

-- the rule of each part
unfoldable pub fits : Parts → Part → Bool
fits p Word = fits_word p
fits p Memory = fits_memory p
fits p Code = fits_code p
fits p Data = fits_data p
fits p Align = fits_align p
fits p SlotBits = fits_slot_bits p
fits p Frame = fits_frame p
fits p Link = fits_link p
fits p Zero = fits_zero p
fits p Allocatable = fits_allocatable p
fits p Flags = fits_flags p

-- the parts in order
abbrev pub all_parts : List Part
all_parts =
    Word ∷ Memory ∷ Code ∷ Data ∷ Align ∷ SlotBits ∷ Frame ∷ Link ∷ Zero ∷ Allocatable ∷ Flags ∷ []

-- the first of these parts whose rule fails
abbrev pub first_unfit : Parts → List Part → Option Part
first_unfit p [] = None
first_unfit p (part ∷ parts) = if fits p part then first_unfit p parts else Some part

abbrev pub unfit_part : Parts → Option Part
unfit_part p = first_unfit p all_parts
