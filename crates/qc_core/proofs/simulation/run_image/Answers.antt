use Rattle.qc_core.specs.Puts.{output_of}
use Rattle.qc_core.specs.Runs.{setting_of}
use Rattle.qc_core.proofs.ProcessRuns.{setting_put, setting_unput}
use Rattle.qc_core.proofs.simulation.run_image.Goals as goal

pub returns-in-Ok-clause-puts : goal.returns-in-Ok-clause-puts
returns-in-Ok-clause-puts g c =
    setting_put (setting_of c.args.descr.now c.args.image.now c.args.input.items) c.args.steps _ _ _ c.show_run.result
    c.requires.valid c.requires.fits c.requires.words c.in-Ok.ensures.loaded c.show_run.ensures.run

pub returns-in-Err-clause-puts : goal.returns-in-Err-clause-puts
returns-in-Err-clause-puts g c =
    setting_unput c.some_outcome.ensures (setting_of c.args.descr.now c.args.image.now c.args.input.items) c.args.steps (output_of (g.O.Out.pieces c.args.out.now) (g.O.Out.faults c.args.out.now))
    c.requires.valid c.requires.fits c.requires.words
