use Rattle.std.proofs.Common.{ℕ, Option, subst}
use Rattle.qc_derivations.specs.Goals.{AsTile}
use Rattle.qc_derivations.specs.Machine.{assignments_of}
use Rattle.qc_derivations.specs.Nodes.{task_of}
use Rattle.qc_derivations.specs.Valid.{tile_needs}
use Rattle.qc_least.specs.Least.{HasCount, IsLeast}
use Rattle.qc_least.proofs.Counts.{counted, recursion}
use Rattle.qc_least.proofs.laws.the_recursion_tells_of_derivations.Goals as goal

pub returns-clause-none : goal.returns-clause-none
returns-clause-none c d t bounds choices are is n has =
    let task = task_of d t bounds.laws in
    let Least : Option ℕ → Type 0 = λ least. IsLeast (HasCount task bounds.height (tile_needs t)) least in
    subst Least is (recursion task choices are bounds.height (AsTile (assignments_of t.rtl))) n (counted d t bounds n has)

pub returns-clause-some : goal.returns-clause-some
returns-clause-some c d t bounds choices are count is has =
    let task = task_of d t bounds.laws in
    let Least : Option ℕ → Type 0 = λ least. IsLeast (HasCount task bounds.height (tile_needs t)) least in
    let least = subst Least is (recursion task choices are bounds.height (AsTile (assignments_of t.rtl))) in
    (has, λ n other. least.1 n (counted d t bounds n other))
