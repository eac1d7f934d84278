use Rattle.std.proofs.Common.{◌≡◌, ◌+◌, ◌*◌, ℕ, List, None, Some, length, map, slice_get}
use Rattle.qc_widths.specs.declared.scope.Bound.{Bound}
use Rattle.qc_resolve.specs.Declarations.{arity_of}
use Rattle.qc_widths.specs.Inner.KeptValues.{AreBelow, AreBound, IsBoundBelow, IsScope, meanings_of}
use Rattle.qc_resolve.specs.Expressions.{bindings, expression_of, value_of}
use Rattle.qc_resolve.specs.Scopes.{Scope as SpecScope, Meaning, argument}
use Rattle.qc_widths.specs.Inner.Measure.{potential}
use Rattle.qc_widths.proofs.evaluate.+evaluation.Given as goal

-- what may come after the expressions at hand, their depth, and more for a function that calls another one with them
abbrev pub decreases-evaluate_use : goal.decreases-evaluate_use
decreases-evaluate_use l = 8 * (potential l.scope.now + goal.size-evaluate_use l) + 4

abbrev pub decreases-evaluate_declared : goal.decreases-evaluate_declared
decreases-evaluate_declared l = 8 * (potential l.scope.now + goal.size-evaluate_declared l) + 3

abbrev pub decreases-evaluate_applied : goal.decreases-evaluate_applied
decreases-evaluate_applied l = 8 * (potential l.scope.now + goal.size-evaluate_applied l) + 3

abbrev pub decreases-evaluate_operator : goal.decreases-evaluate_operator
decreases-evaluate_operator l = 8 * (potential l.scope.now + goal.size-evaluate_operator l) + 2

abbrev pub decreases-evaluate_bindings : goal.decreases-evaluate_bindings
decreases-evaluate_bindings l = 8 * (potential l.scope.now + goal.size-evaluate_bindings l) + 2

abbrev pub decreases-evaluate_plain : goal.decreases-evaluate_plain
decreases-evaluate_plain l = 8 * (potential l.scope.now + goal.size-evaluate_plain l) + 1

abbrev pub decreases-evaluate_binding : goal.decreases-evaluate_binding
decreases-evaluate_binding l = 8 * (potential l.scope.now + goal.size-evaluate_binding l) + 1

abbrev pub decreases-evaluate : goal.decreases-evaluate
decreases-evaluate l = 8 * (potential l.scope.now + goal.size-evaluate l)

-- those so far
abbrev pub invariant-evaluate_plain-loop-arg : goal.invariant-evaluate_plain-loop-arg
invariant-evaluate_plain-loop-arg l = record {
  count : length l.bounds ≡ l.arg-index;
  below : (k : ℕ) (b : Bound) → slice_get l.bounds k ≡ Some b → (ceiling : ℕ) → IsBoundBelow ceiling b;
  bound : (spec : SpecScope) (meanings : List Meaning) → IsScope l.scope spec
      → AreBound meanings l.arg-index l.bounds (map (λ v. argument v None) (map (value_of spec) l.args));
}

abbrev pub invariant-evaluate_bindings-loop-place : goal.invariant-evaluate_bindings-loop-place
invariant-evaluate_bindings-loop-place l = record {
  count : length l.bounds ≡ l.place;
  below : AreBelow l.scope.ceiling l.bounds;
  bound : (spec : SpecScope) → IsScope l.scope spec
      → AreBound (meanings_of l.scope) l.place l.bounds (bindings spec (map arity_of l.params) (map expression_of l.args));
}
