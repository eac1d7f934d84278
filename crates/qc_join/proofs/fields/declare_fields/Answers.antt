use Rattle.std.proofs.Common.{◌++◌, take}
use Rattle.qc_join.specs.Expansion.{places_of}
use Rattle.qc_join.proofs.ItemFields.{field_more}
use Rattle.qc_join.proofs.fields.declare_fields.Goals as goal

pub loop-field-preserved : goal.loop-field-preserved
loop-field-preserved c pairs is =
    let a = c.args in
    let at = c.loop-field.field-index in
    field_more a.declaration a.bits a.fields.now at c.field-item.result c.as_slice.result.now pairs c.push.new.self.values
    c.push.new.self.numbers c.loop-field-test.true c.field-item.is c.as_slice.ensures
    (c.in_ok-push.ensures (pairs ++ places_of a.declaration a.bits (take at a.fields.now))
    (c.loop-field.invariant pairs is))
