-- The names that a body may use, by the tables in which they are looked up.
use Rattle.std.specs.Prelude.{ℕ, ◌≡◌, List, length, map, take}
use Rattle.qc_facts.specs.declared.facts.Local.{Local}
use Rattle.qc_resolve.specs.declared.names.Locals.{Locals}
use Rattle.qc_resolve.specs.declared.names.Locals.TheVariants.{Params, Operands}
use Rattle.qc_resolve.specs.declared.names.Names as tables
use Rattle.qc_resolve.specs.Scopes.{Names, Signature}
use Rattle.qc_resolve.specs.Declarations.{locals_of_params, locals_of_operands, names_for, signatures_in}
use Rattle.qc_resolve.specs.FunctionTables.{IsTableOf}
use Rattle.qc_resolve.specs.KeptSignatures.{summary}

abbrev pub locals_in : Locals → List (List ℕ × Local)
locals_in (Params params) = locals_of_params params.now
locals_in (Operands operands) = locals_of_operands operands.now

-- the functions and named effects that may be used: the first ones
abbrev pub first_signatures : tables.Names → List Signature
first_signatures t = take (length t.signatures.now) (signatures_in t.facts.now t.items.now)

unfoldable pub names_at : tables.Names → Names
names_at t = names_for t.facts.now (first_signatures t) (locals_in t.locals)

-- The symbol table is that of the items, and of each signature that may be used the summary is there.
pub record IsReady (t : tables.Names) : Type 0 where
  pub table : IsTableOf t.items.now t.functions.now
  pub summaries : t.signatures.now ≡ map summary (first_signatures t)
