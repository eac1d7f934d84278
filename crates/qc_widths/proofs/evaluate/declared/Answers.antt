use Rattle.std.proofs.Common.{ap, sym, ◌∙◌, ◌≡◌, arith, Some, None}
use Rattle.qc_resolve.specs.Declarations.{place_of_function}
use Rattle.qc_facts.specs.Facts.{named}
use Rattle.qc_widths.proofs.Declared.{late_meaning, meaning_at, meaning_name, no_meaning}
use Rattle.qc_widths.proofs.evaluate.declared.Goals as goal

pub returns-then-number-scope-clause-means : goal.returns-then-number-scope-clause-means
returns-then-number-scope-clause-means c = λ spec is.
    let items = c.args.scope.now.items.now in
    let facts = c.args.scope.now.facts.now in
    let level = c.args.scope.now.level in
    let name = c.args.name.now.text in
    let place : place_of_function items name ≡ Some c.in-Some.number = ap (λ n. place_of_function items n) (sym c.as_slice.ensures) ∙ sym c.find.ensures ∙ c.in-Some.is in
    ap (λ l. named meaning_name l name) is.functions
    ∙ late_meaning facts items level c.in-Some.number name place c.if-number-scope.true

pub returns-in-None-clause-means : goal.returns-in-None-clause-means
returns-in-None-clause-means c = λ spec is.
    let items = c.args.scope.now.items.now in
    let name = c.args.name.now.text in
    let place : place_of_function items name ≡ None = ap (λ n. place_of_function items n) (sym c.as_slice.ensures) ∙ sym c.find.ensures ∙ c.in-None.is in
    ap (λ l. named meaning_name l name) is.functions
    ∙ no_meaning c.args.scope.now.facts.now items c.args.scope.now.level name place

pub returns-else-number-scope-clause-means : goal.returns-else-number-scope-clause-means
returns-else-number-scope-clause-means c = λ spec is.
    let items = c.args.scope.now.items.now in
    let facts = c.args.scope.now.facts.now in
    let level = c.args.scope.now.level in
    let name = c.args.name.now.text in
    let place : place_of_function items name ≡ Some c.in-Some.number = ap (λ n. place_of_function items n) (sym c.as_slice.ensures) ∙ sym c.find.ensures ∙ c.in-Some.is in
    let r = meaning_at facts items level c.in-Some.number name place (omega (arith, c.if-number-scope.false)) in
    ap (λ l. named meaning_name l name) is.functions ∙ r.named ∙ sym r.gets
