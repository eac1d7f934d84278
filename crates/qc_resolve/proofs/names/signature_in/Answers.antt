use Rattle.std.proofs.Common.{ℕ, sym, ap, ◌∙◌}
use Rattle.std.specs.List.{slice_get}
use Rattle.std.specs.Option.{option_and_then}
use Rattle.qc_resolve.proofs.Lookups.{summary-placed}
use Rattle.qc_resolve.proofs.names.signature_in.Goals as goal

pub returns-in-None : goal.returns-in-None
returns-in-None c =
    ap (option_and_then (λ (n : ℕ). slice_get c.args.names.now.signatures.now n)) (sym c.in-None.is ∙ c.find.ensures)
    ∙ sym (summary-placed c.args.names.now c.args.name.now c.requires)

pub returns-in-Some : goal.returns-in-Some
returns-in-Some c =
    c.at.ensures
    ∙ ap (option_and_then (λ (n : ℕ). slice_get c.args.names.now.signatures.now n)) (sym c.in-Some.is ∙ c.find.ensures)
    ∙ sym (summary-placed c.args.names.now c.args.name.now c.requires)
