use Rattle.std.proofs.Common.{◌≡◌, ◌∙◌, ℕ, true, false, ◌++◌, ◌∷◌, [], subst, sym, ap, refl, length, List}
use Rattle.std.proofs.lemmas.Option.{get_or_from_slice_get, slice_get_read}
use Rattle.qc_laws.specs.declared.step.Step.{Step}
use Rattle.qc_rewrite.specs.Inner.Tables.{IsFound, IsNoted, found_at}
use Rattle.qc_rewrite.proofs.Noted.{found_new, found_old}
use Rattle.qc_rewrite.proofs.table.Table.add.Goals as goal

pub returns-then-not-fresh-clause-found : goal.returns-then-not-fresh-clause-found
returns-then-not-fresh-clause-found c =
    let seen = c.args.self.now.seen.keys in
    let found = c.args.self.now.found.items in
    let more = c.note.new.seen.keys in
    let noted = subst (IsNoted seen more c.number.result) c.if-not-fresh.true c.in_ok-fresh.ensures in
    let P : ℕ → Type 0 = λ number. IsNoted seen more number false in
    (found_old seen more found c.args.id ((found_at found c.args.at).1 ++ record { law = c.args.law; place = c.args.place.now } ∷ [])
    c.requires.matched (subst P c.number.ensures noted)).0

pub returns-clause-found : goal.returns-clause-found
returns-clause-found c =
    let seen = c.args.self.now.seen.keys in
    let found = c.args.self.now.found.items in
    let more = c.note.new.seen.keys in
    let path = (found_at found c.args.at).1 ++ record { law = c.args.law; place = c.args.place.now } ∷ [] in
    let noted = subst (IsNoted seen more c.number.result) c.if-not-fresh.false c.in_ok-fresh.ensures in
    let P : ℕ → Type 0 = λ number. IsNoted seen more number true in
    let it = found_new seen more found c.args.id path c.requires.matched (subst P c.number.ensures noted) in
    let at = get_or_from_slice_get found c.args.at c.index.result.now (0, []) (slice_get_read found (length found) c.args.at c.index.result.now refl c.requires.at c.index.ensures) in
    let longer : c.in_ok-path.path ≡ path =
    c.in_ok-path.ensures ∙ ap (λ p. p ++ record { law = c.args.law; place = c.args.place.now } ∷ []) c.as_slice.ensures
    ∙ ap (λ (f : ℕ × List Step). f.1 ++ record { law = c.args.law; place = c.args.place.now } ∷ []) (sym at) in
    let Found : List (ℕ × List Step) → Type 0 = λ fs. IsFound found fs c.args.id path in
    subst Found (sym (c.in_ok-push.ensures.items ∙ ap (λ p. found ++ (c.args.id, p) ∷ []) longer)) it.0
