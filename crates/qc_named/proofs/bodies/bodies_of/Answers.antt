use Rattle.std.proofs.Common.{map, take, ap, ◌∙◌, arith}
use Rattle.qc_named.specs.Contexts.{signatures_at}
use Rattle.qc_facts.specs.Faults.{reported}
use Rattle.qc_named.specs.NameFaults.{name_faults_of_item}
use Rattle.qc_named.specs.ResolvedEffects.{body_of_item}
use Rattle.qc_named.proofs.Declared.{level_within, bodies_more}
use Rattle.qc_named.proofs.bodies.bodies_of.Goals as goal

pub body_of_item-requires-clause-level : goal.body_of_item-requires-clause-level
body_of_item-requires-clause-level c =
    let t = c.args.context.now in
    omega (arith, c.len-level.ensures, level_within t.facts.now t.items.now c.loop-item.item-index c.loop-item.found c.loop-item.invariant)

pub loop-item-preserved : goal.loop-item-preserved
loop-item-preserved c =
    let t = c.args.context.now in
    bodies_more t.facts.now t.items.now c.loop-item.item-index c.item-item.result c.loop-item-test.true c.item-item.is
    c.loop-item.found c.add.new.found c.in_ok-body.body c.loop-item.invariant c.in_ok-add.ensures
    (c.in_ok-body.ensures.body ∙ ap (λ n. body_of_item t.facts.now (take n (signatures_at t)) c.item-item.result) c.len-level.ensures)
    (c.in_ok-body.ensures.fault
    ∙ ap (λ n. map reported (name_faults_of_item t.facts.now (take n (signatures_at t)) c.item-item.result)) c.len-level.ensures)
