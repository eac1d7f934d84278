use Rattle.std.proofs.Common.{List, map, refl, arith}
use Rattle.qc_facts.specs.Faults.{token_of, rank_of}
use Rattle.qc_lrtl.specs.declared.syntax.Expr.{Expr}
use Rattle.qc_facts.specs.declared.faults.WidthFault.{WidthFault}
use Rattle.qc_resolve.specs.Expressions.{expression_of, plain_faults, faults_in}
use Rattle.qc_resolve.specs.KeptNames.{names_at}
use Rattle.qc_names.specs.Law.Reported.{reported_more}
use Rattle.qc_resolve.proofs.ArgumentLists.{arguments_pairwise}
use Rattle.qc_resolve.proofs.Paired.{pairs_more, pairs_all}
use Rattle.qc_resolve.proofs.names.expressions.+faults.Goals as goal

pub plain_fault-loop-arg-preserved : goal.plain_fault-loop-arg-preserved
plain_fault-loop-arg-preserved t c =
    let faults : List Expr → List WidthFault =
    λ args. plain_faults (names_at c.args.names.now) (map expression_of args) in
    reported_more token_of rank_of faults (faults_in (names_at c.args.names.now)) (λ arg args. refl) c.args.args.now
    c.loop-arg.arg-index c.arg-item.result c.loop-arg.found c.expression_fault.result _ _ c.loop-arg-test.true
    c.arg-item.is c.expression_fault.ensures c.earlier-found.ensures c.loop-arg.invariant

pub argument_fault-loop-place-preserved : goal.argument_fault-loop-place-preserved
argument_fault-loop-place-preserved t c =
    pairs_more _ _ _ _ (arguments_pairwise (names_at c.args.names.now)) c.args.params.now c.args.args.now
    c.loop-place.place _ c.index-args-place.result c.loop-place.found c.one_argument_fault.result
    c.earlier-found.result _ (omega arith) (omega arith) c.index-args-place.is c.one_argument_fault.ensures
    c.earlier-found.ensures c.loop-place.invariant

pub argument_fault-returns : goal.argument_fault-returns
argument_fault-returns t c =
    pairs_all _ _ _ _ (arguments_pairwise (names_at c.args.names.now)) c.args.params.now c.args.args.now
    c.loop-place.place c.loop-place.found _ (omega arith) c.loop-place.invariant
