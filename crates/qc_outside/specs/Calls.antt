-- Calls that are to fail, by their numbers, which are counted from 1.
use Rattle.std.specs.Prelude.{ℕ, List, Contains}
use Rattle.qc_outside.specs.FaultCounts.{next_count}
use Rattle.qc_outside.specs.declared.calls.Calls.{Calls}

-- the call after so many is one of those that are to fail
abbrev pub NextFails : List ℕ → ℕ → Type 0
NextFails failing made = Contains failing (next_count made)

-- the numbers of the calls that are to fail, how many calls were made, and how many of them have failed
abbrev pub failing_of : Calls → List ℕ
failing_of calls = calls.failing.items

abbrev pub calls_of : Calls → ℕ
calls_of calls = calls.made

abbrev pub faults_of : Calls → ℕ
faults_of calls = calls.faults
