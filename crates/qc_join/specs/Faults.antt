-- Which of several faults among names is reported, and as which public fault.
use Rattle.std.specs.Prelude.{ℕ, List, Option}
use Rattle.qc_names.specs.Reported as faults
use Rattle.qc_join.specs.declared.faults.NameFault.{NameFault}
use Rattle.qc_join.specs.declared.faults.NameFault.TheVariants.{Unknown, Twice}
use Rattle.qc_join.specs.declared.faults.JoinFault.{JoinFault}
use Rattle.qc_join.specs.declared.faults.JoinFault.TheVariants.{UnknownName, TwiceNamed}

abbrev pub token_of : NameFault → ℕ
token_of (Unknown token) = token
token_of (Twice token) = token

-- the order of the sorts of faults at one token
abbrev pub rank_of : NameFault → ℕ
rank_of (Unknown token) = 0
rank_of (Twice token) = 1

-- the fault that is reported of those of two lists, by what is reported of each
abbrev pub reported_of_both : Option NameFault → Option NameFault → Option NameFault
reported_of_both = faults.reported_of_both token_of rank_of

-- The fault that is reported of a list: that of the least token, at one token an unknown name.
abbrev pub reported : List NameFault → Option NameFault
reported = faults.reported token_of rank_of

-- the public fault
abbrev pub fault_of_name : NameFault → JoinFault
fault_of_name (Unknown token) = UnknownName token
fault_of_name (Twice token) = TwiceNamed token
