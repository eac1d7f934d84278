-- Where the names of a body are looked up.
use Rattle.std.specs.Prelude.{ℕ, List, Option}
use Rattle.std.specs.Option.{option_map}
use Rattle.qc_names.specs.ValueTables.{IsTableOf}
use Rattle.qc_facts.specs.Facts.{Facts}
use Rattle.qc_resolve.specs.declared.names.Locals.{Locals}
use Rattle.qc_resolve.specs.declared.names.Locals.TheVariants.{Params, Operands}
use Rattle.qc_resolve.specs.declared.names.Names as tables
use Rattle.qc_resolve.specs.declared.signatures.Signature as kept
use Rattle.qc_resolve.specs.Scopes.{Signature}
use Rattle.qc_resolve.specs.KeptNames.{first_signatures, IsReady}
use Rattle.qc_resolve.specs.KeptSignatures.{summary, signature_like}
use Rattle.qc_named.specs.declared.standing.Own.{Own}
use Rattle.qc_named.specs.declared.standing.Scope.{Scope}
use Rattle.qc_named.specs.Standing.{Standing, own_params, own_operands, standing_for}

abbrev pub owns_in : Facts → Locals → List (List ℕ × Own)
owns_in facts (Params params) = own_params params.now
owns_in facts (Operands operands) = own_operands facts operands.now

-- what the names stand for that are looked up here
unfoldable pub standing_at : tables.Names → Standing
standing_at t = standing_for t.facts.now (first_signatures t) (owns_in t.facts.now t.locals)

-- The tables are those of the functions that may be used, and of the body's own names.
pub record IsSettled (scope : Scope) : Type 0 where
  pub ready : IsReady scope.names
  pub owns : IsTableOf (owns_in scope.names.facts.now scope.names.locals) scope.own.now.values scope.own.now.numbers

-- a signature with its number, as far as it is kept
abbrev pub like_kept : Option (ℕ × kept.Signature) → Option (ℕ × Signature)
like_kept o = option_map (λ p. (p.0, signature_like p.1)) o

abbrev pub kept_of : Option (ℕ × Signature) → Option (ℕ × kept.Signature)
kept_of o = option_map (λ p. (p.0, summary p.1)) o
