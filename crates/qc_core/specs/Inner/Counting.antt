-- What functions leave of the counts of faults: none is counted that a status doesn't tell, and no count falls.
use Rattle.std.specs.Prelude.{ℕ, ◌≡◌, ◌≤◌, Result, MatchResult}
use Rattle.qc_core.specs.declared.answer.Status.{Status}
use Rattle.qc_core.specs.Leaves.{KeepsOutFaults, KeepsShelfFaults}

-- of a function that puts lines and comes to a status
pub record CountsOutFaults (status : Status) (before now : ℕ) : Type 0 where
  pub kept : KeepsOutFaults status before now
  pub later : before ≤ now

-- of one that puts lines, and stops with a status
pub record CountsPutFaults {X : Type 0} (result : Result X Status) (before now : ℕ) : Type 0 where
  pub kept : MatchResult result (λ x. now ≡ before) (λ status. KeepsOutFaults status before now)
  pub later : before ≤ now

-- of a function that works on a shelf and puts lines
pub record CountsFaults (status : Status) (shelf_before shelf_now out_before out_now : ℕ) : Type 0 where
  pub shelf_kept : KeepsShelfFaults status shelf_before shelf_now
  pub shelf_later : shelf_before ≤ shelf_now
  pub out_kept : KeepsOutFaults status out_before out_now
  pub out_later : out_before ≤ out_now
