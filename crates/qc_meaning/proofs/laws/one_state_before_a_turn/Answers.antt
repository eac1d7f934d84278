use Rattle.std.proofs.Common.{subst, sym}
use Rattle.qc_runs.specs.Automaton.{IsBefore, before}
use Rattle.qc_meaning.specs.Runs.{code_run}
use Rattle.qc_meaning.specs.Tame.{most_steps}
use Rattle.qc_meaning.specs.Law.Placings.{code_before, code_one_before}
use Rattle.qc_meaning.proofs.laws.one_state_before_a_turn.Goals as goal

pub returns : goal.returns
returns c = λ d x at s u t. (
  λ is. code_one_before d x at s t u (before (code_run d x at) (most_steps x) s t) is (code_before d x at s t),
  λ same. subst (IsBefore (code_run d x at) s t) (sym same) (code_before d x at s t),
)
