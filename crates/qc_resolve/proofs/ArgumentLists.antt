-- What is reported of arguments for parameters, one after the other.
use Rattle.std.proofs.Common.{ℕ, ◌≡◌, List, [], ◌∷◌, Option, Some, None, map, refl}
use Rattle.qc_lrtl.specs.declared.syntax.Expr.{Expr}
use Rattle.qc_facts.specs.declared.faults.WidthFault.{WidthFault}
use Rattle.qc_facts.specs.Faults.{reported, reported_of_both, token_of, rank_of}
use Rattle.qc_resolve.specs.Scopes.{Names}
use Rattle.qc_resolve.specs.Expressions.{expression_of, argument_faults}
use Rattle.qc_resolve.specs.Effects.{target_faults, targets_at}
use Rattle.qc_resolve.specs.KeptSignatures.{lesser, least, at_most_one}
use Rattle.qc_resolve.specs.Inner.ArgumentFaults.{one_argument_faults, one_target_faults, one_target_at}
use Rattle.qc_names.specs.Law.Reported.{reported-append, both_assoc, both-none}
use Rattle.qc_resolve.proofs.Kept.{lesser-assoc, lesser-none, least-append, least-none}
use Rattle.qc_resolve.proofs.Paired.{IsPairwise}

-- arguments for parameters, plain or functions
abbrev pub reported_of_arguments : Names → List (Option ℕ) → List Expr → Option WidthFault
reported_of_arguments names params args = reported (argument_faults names params (map expression_of args))

abbrev pub reported_of_argument : Names → Option ℕ → Expr → Option WidthFault
reported_of_argument names param arg = reported (one_argument_faults names param (expression_of arg))

argument-step : (names : Names) (p : Option ℕ) (ps : List (Option ℕ)) (e : Expr) (es : List Expr)
    → reported_of_arguments names (p ∷ ps) (e ∷ es)
    ≡ reported_of_both (reported_of_argument names p e) (reported_of_arguments names ps es)
argument-step names None ps e es =
    reported-append token_of rank_of (one_argument_faults names None (expression_of e)) (argument_faults names ps (map expression_of es))
argument-step names (Some arity) ps e es =
    reported-append token_of rank_of (one_argument_faults names (Some arity) (expression_of e))
    (argument_faults names ps (map expression_of es))

no-arguments : (names : Names) (ps : List (Option ℕ)) → reported_of_arguments names ps [] ≡ None
no-arguments names [] = refl
no-arguments names (None ∷ ps) = refl
no-arguments names (Some arity ∷ ps) = refl

pub arguments_pairwise : (names : Names)
    → IsPairwise reported_of_both None (reported_of_arguments names) (reported_of_argument names)
arguments_pairwise names = record {
  assoc = both_assoc token_of rank_of;
  unit = both-none token_of rank_of;
  step = argument-step names;
  left = λ es. refl;
  right = no-arguments names;
}

-- arguments for parameters that stand for targets
abbrev pub reported_of_targets : Names → List (Option ℕ) → List Expr → Option WidthFault
reported_of_targets names targets args = reported (target_faults names (map at_most_one targets) (map expression_of args))

abbrev pub reported_of_target : Names → Option ℕ → Expr → Option WidthFault
reported_of_target names target arg = reported (one_target_faults names (at_most_one target) (expression_of arg))

no-target-faults : (names : Names) (ts : List (Option ℕ)) → reported_of_targets names ts [] ≡ None
no-target-faults names [] = refl
no-target-faults names (t ∷ ts) = refl

pub targets_pairwise : (names : Names) → IsPairwise reported_of_both None (reported_of_targets names) (reported_of_target names)
targets_pairwise names = record {
  assoc = both_assoc token_of rank_of;
  unit = both-none token_of rank_of;
  step = λ t ts e es. reported-append token_of rank_of (one_target_faults names (at_most_one t) (expression_of e))
      (target_faults names (map at_most_one ts) (map expression_of es));
  left = λ es. refl;
  right = no-target-faults names;
}

-- the targets that arguments of a name stand for
abbrev pub least_of_targets : List ℕ → List (Option ℕ) → List Expr → Option ℕ
least_of_targets name targets args = least (targets_at name (map at_most_one targets) (map expression_of args))

abbrev pub least_of_target : List ℕ → Option ℕ → Expr → Option ℕ
least_of_target name target arg = least (one_target_at name (at_most_one target) (expression_of arg))

no-targets : (name : List ℕ) (ts : List (Option ℕ)) → least_of_targets name ts [] ≡ None
unfolding least
no-targets name [] = refl
no-targets name (t ∷ ts) = refl

pub least_pairwise : (name : List ℕ) → IsPairwise lesser None (least_of_targets name) (least_of_target name)
least_pairwise name = record {
  assoc = lesser-assoc;
  unit = lesser-none;
  step = λ t ts e es. least-append (one_target_at name (at_most_one t) (expression_of e))
      (targets_at name (map at_most_one ts) (map expression_of es));
  left = λ es. least-none;
  right = no-targets name;
}
