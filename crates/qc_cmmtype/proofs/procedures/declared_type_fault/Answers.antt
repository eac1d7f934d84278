use Rattle.std.proofs.Common.{◌∙◌, ap}
use Rattle.std.specs.List.{flat_map}
use Rattle.qc_names.specs.Law.Reported.{reported_two}
use Rattle.qc_cmmtype.specs.Types.{type_faults}
use Rattle.qc_cmmtype.specs.Faults.{token_of, rank_of, reported}
use Rattle.qc_cmmtype.proofs.procedures.declared_type_fault.Goals as goal

pub returns : goal.returns
returns c =
    c.earlier.ensures
    ∙ reported_two token_of rank_of (flat_map (λ q. type_faults c.args.word q.type_of) c.args.procedure.now.params)
    (flat_map (λ d. type_faults c.args.word d.type_of) c.args.procedure.now.variables)
    c.param_type_fault-params.result c.variable_type_fault-variables.result
    (c.param_type_fault-params.ensures ∙ ap (λ qs. reported (flat_map (λ q. type_faults c.args.word q.type_of) qs)) c.as_slice.ensures)
    (c.variable_type_fault-variables.ensures
    ∙ ap (λ ds. reported (flat_map (λ d. type_faults c.args.word d.type_of) ds)) c.as_slice-2.ensures)
