-- Which of several faults of a machine's text is reported.
use Rattle.std.specs.Prelude.{ℕ, Bool, List, Option}
use Rattle.qc_names.specs.Reported as faults
use Rattle.qc_facts.specs.declared.faults.WidthFault.{WidthFault}
use Rattle.qc_facts.specs.declared.faults.WidthFault.TheVariants.{UnknownName, TwiceNamed, WidthClash, TooMany}

abbrev pub token_of : WidthFault → ℕ
token_of (UnknownName token) = token
token_of (TwiceNamed token) = token
token_of (WidthClash token found wanted) = token
token_of (TooMany token limit) = token

-- the order of the sorts of faults at one token
abbrev pub rank_of : WidthFault → ℕ
rank_of (UnknownName token) = 0
rank_of (TwiceNamed token) = 1
rank_of (WidthClash token found wanted) = 2
rank_of (TooMany token limit) = 3

-- a fault, or one that is listed after it and comes before it
abbrev pub reported_of_two : WidthFault → Option WidthFault → WidthFault
reported_of_two = faults.reported_of_two token_of rank_of

-- the fault that is reported of those of two lists, by what is reported of each
abbrev pub reported_of_both : Option WidthFault → Option WidthFault → Option WidthFault
reported_of_both = faults.reported_of_both token_of rank_of

-- The fault that is reported of a list: that of the least token, at one token that of the first sort, and of one sort
-- the first of the list.
abbrev pub reported : List WidthFault → Option WidthFault
reported = faults.reported token_of rank_of

-- the fault of a use of a name, unless that is known
abbrev pub unknown_unless : Bool → ℕ → List WidthFault
unknown_unless = faults.unknown_unless UnknownName
