-- What is known of a text before its bodies are looked at.
use Rattle.std.specs.Prelude.{◌≡◌, List, map}
use Rattle.qc_resolve.specs.Declarations.{signatures_in}
use Rattle.qc_resolve.specs.FunctionTables.{IsTableOf}
use Rattle.qc_resolve.specs.KeptSignatures.{summary}
use Rattle.qc_resolve.specs.Scopes.{Signature}
use Rattle.qc_named.specs.declared.bodies.Context.{Context}

abbrev pub signatures_at : Context → List Signature
signatures_at t = signatures_in t.facts.now t.items.now

-- The table is that of the items, and the signatures are all that these declare.
pub record IsContext (t : Context) : Type 0 where
  pub functions : IsTableOf t.items.now t.functions.now
  pub signatures : t.signatures.now ≡ map summary (signatures_at t)
