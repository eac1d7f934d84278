use Rattle.std.proofs.Common.{refl}
use Rattle.qc_core.proofs.ProcessRuns.{reach_runs, runs_reach}
use Rattle.qc_core.proofs.laws.machine_runs.Goals as goal

pub returns-clause-forth : goal.returns-clause-forth
returns-clause-forth c = λ d s steps p runs.
    record { reached = record { state = p.state; output = p.output }; reaches = runs_reach d s steps p runs; is = refl }

pub returns-clause-back : goal.returns-clause-back
returns-clause-back c = λ d s steps seen shows.
    (record { state = shows.reached.state; output = shows.reached.output }, reach_runs d s steps shows.reached shows.reaches, shows.is)
