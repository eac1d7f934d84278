use Rattle.std.proofs.Common.{◌∙◌, ap}
use Rattle.qc_cmmtype.specs.Endings.{results_of}
use Rattle.qc_cmmtype.specs.Faults.{reported_of_both}
use Rattle.qc_cmmtype.specs.Tables.{globals_at}
use Rattle.qc_cmmtype.proofs.ProcedureFaults.{procedure_told}
use Rattle.qc_cmmtype.proofs.procedures.fault_with.Goals as goal

pub returns : goal.returns
returns c =
    c.earlier.ensures
    ∙ ap (reported_of_both c.args.locals.now.fault) c.earlier-rest.ensures
    ∙ procedure_told (globals_at c.args.globals.now) c.args.procedure.now c.args.locals.now c.args.labels.now c.results_of.result
    c.as_slice-2.result.now c.body_fault-body.result c.own_fault-own.result c.requires.locals c.requires.labels c.as_slice-2.ensures
    (c.results_of.ensures ∙ ap results_of c.as_slice.ensures) c.body_fault-body.ensures c.own_fault-own.ensures
