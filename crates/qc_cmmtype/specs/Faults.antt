-- Which of several faults of a program is reported.
use Rattle.std.specs.Prelude.{ℕ, Bool, nat_lt, if◌then◌else◌, List, [], ◌∷◌, Option}
use Rattle.qc_names.specs.Reported as faults
use Rattle.qc_cmmtype.specs.declared.faults.ProgramFault.{ProgramFault}
use Rattle.qc_cmmtype.specs.declared.faults.ProgramFault.TheVariants.{UnknownName, TwiceNamed, WidthClash, Arity, FallsOff, TargetMismatch, NoMain, DataTooLarge}

-- the token at which a fault stands; what is wanting or too large as a whole stands behind all tokens
abbrev pub token_of : ProgramFault → ℕ
token_of (UnknownName token) = token
token_of (TwiceNamed token) = token
token_of (WidthClash token found wanted) = token
token_of (Arity token found wanted) = token
token_of (FallsOff token) = token
token_of (TargetMismatch token) = token
token_of NoMain = 18446744073709551615
token_of (DataTooLarge bytes room) = 18446744073709551615

-- the order of the sorts of faults at one token
abbrev pub rank_of : ProgramFault → ℕ
rank_of (UnknownName token) = 0
rank_of (TwiceNamed token) = 1
rank_of (WidthClash token found wanted) = 2
rank_of (Arity token found wanted) = 3
rank_of (FallsOff token) = 4
rank_of (TargetMismatch token) = 5
rank_of NoMain = 6
rank_of (DataTooLarge bytes room) = 7

-- the fault that is reported of those of two lists, by what is reported of each
abbrev pub reported_of_both : Option ProgramFault → Option ProgramFault → Option ProgramFault
reported_of_both = faults.reported_of_both token_of rank_of

-- The fault that is reported of a list: that of the least token, at one token that of the first sort, and of one sort
-- the first of the list.
abbrev pub reported : List ProgramFault → Option ProgramFault
reported = faults.reported token_of rank_of

-- the fault of a use of a name at a token, unless that is known
abbrev pub unknown_unless : Bool → ℕ → List ProgramFault
unknown_unless = faults.unknown_unless UnknownName

-- a fault, unless a rule is kept
abbrev pub unless : Bool → ProgramFault → List ProgramFault
unless kept fault = if kept then [] else fault ∷ []

-- a number as a fault has it, of which no more than the greatest of 32 bits is told
abbrev pub told : ℕ → ℕ
told n = if nat_lt n 4294967295 then n else 4294967295

-- the fault of so many things where another number is wanted
abbrev pub arity : ℕ → ℕ → ℕ → ProgramFault
arity token found wanted = Arity token (told found) (told wanted)
