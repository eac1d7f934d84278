use Rattle.std.proofs.Common.{◌≡◌, map, take}
use Rattle.qc_bodies.specs.Trees.{core_of}
use Rattle.qc_named.specs.Inner.Arguments.{AreArguments}
use Rattle.qc_named.specs.Inner.Scopes.{standing_at}
use Rattle.qc_named.specs.Resolved.{resolved, trees_of}
use Rattle.qc_named.proofs.expression.+trees.Given as goal

abbrev pub invariant-arguments_of-loop-place : goal.invariant-arguments_of-loop-place
invariant-arguments_of-loop-place l =
    AreArguments (standing_at l.scope.names) (take l.place l.params) (map resolved (take l.place l.args)) l.found

abbrev pub invariant-trees_of-loop-arg : goal.invariant-trees_of-loop-arg
invariant-trees_of-loop-arg l =
    map core_of l.found ≡ trees_of (standing_at l.scope.names) (map resolved (take l.arg-index l.args))
