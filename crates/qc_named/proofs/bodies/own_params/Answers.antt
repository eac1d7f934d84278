use Rattle.std.proofs.Common.{arith, take}
use Rattle.std.proofs.lemmas.List.{length-take-le}
use Rattle.qc_named.proofs.Declared.{values_few, functions_few}
use Rattle.qc_named.proofs.bodies.own_params.Goals as goal

pub add_param-requires-clause-values : goal.add_param-requires-clause-values
add_param-requires-clause-values c =
    omega (
      arith,
      c.loop-param.invariant.values,
      values_few 0 (take c.loop-param.param-index c.args.params.now),
      length-take-le c.loop-param.param-index c.args.params.now (omega arith),
    )

pub add_param-requires-clause-functions : goal.add_param-requires-clause-functions
add_param-requires-clause-functions c =
    omega (
      arith,
      c.loop-param.invariant.functions,
      functions_few 0 (take c.loop-param.param-index c.args.params.now),
      length-take-le c.loop-param.param-index c.args.params.now (omega arith),
    )
