use Rattle.std.proofs.Common.{None, ◌++◌, ◌∷◌, [], refl, subst, arith}
use Rattle.qc_names.specs.ValueTables.{IsTableOf}
use Rattle.qc_named.specs.declared.standing.Own.TheVariants as own
use Rattle.qc_named.specs.Standing.{own_params}
use Rattle.qc_named.proofs.Declared.{own_more}
use Rattle.qc_named.proofs.bodies.add_value.Goals as goal

pub returns : goal.returns
returns c = λ params is before.
    own_more params c.args.param.now None c.args.found.now _ is before
    (subst (λ n. IsTableOf (own_params params ++ (n, own.Value c.args.found.now.values) ∷ []) c.push.new.self.values c.push.new.self.numbers)
    c.as_slice.ensures (c.in_ok-push.ensures (own_params params) before.table))
    (omega arith) refl
