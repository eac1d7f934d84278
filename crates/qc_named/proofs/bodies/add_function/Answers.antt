use Rattle.std.proofs.Common.{Some, ◌++◌, ◌∷◌, [], refl, subst, arith}
use Rattle.qc_names.specs.ValueTables.{IsTableOf}
use Rattle.qc_named.specs.declared.standing.Own.TheVariants as own
use Rattle.qc_named.specs.Standing.{own_params}
use Rattle.qc_named.proofs.Declared.{own_more}
use Rattle.qc_named.proofs.bodies.add_function.Goals as goal

pub returns : goal.returns
returns c = λ params is before.
    own_more params c.args.param.now (Some c.args.arity) c.args.found.now _ is before
    (subst (λ n. IsTableOf (own_params params ++ (n, own.Function c.args.found.now.functions c.args.arity) ∷ []) c.push.new.self.values c.push.new.self.numbers)
    c.as_slice.ensures (c.in_ok-push.ensures (own_params params) before.table))
    refl (omega arith)
