use Rattle.std.proofs.Common.{◌<◌, ◌++◌, ◌∷◌, [], Option, None, Some, ℕ, length, subst, sym, refl}
use Rattle.std.proofs.lemmas.Option.{slice_get-get_or}
use Rattle.qc_equations.specs.Steps.{rewritten}
use Rattle.qc_laws.specs.Given.{IsGiven}
use Rattle.qc_pool.specs.Nodes.{term_at}
use Rattle.qc_rewrite.specs.Closure.{traces_of}
use Rattle.qc_rewrite.specs.Inner.Growing.{Covers, Grows, trace_at}
use Rattle.qc_rewrite.specs.Closure.{AreThere}
use Rattle.qc_rewrite.specs.Inner.Tables.{found_at}
use Rattle.qc_rewrite.proofs.Trying.{there_at, tried_none, tried_some}
use Rattle.qc_rewrite.proofs.reached.try_law.Goals as goal
use Rattle.qc_rewrite.proofs.reached.try_law.Goals.{In_ok-add-in-Some}

pub rewrite_at-requires : goal.rewrite_at-requires
rewrite_at-requires c =
    let found = c.args.table.now.found.items in
    subst (λ (n : ℕ). n < length c.args.pool.now) (sym c.term.ensures)
    (there_at c.args.pool.now found c.args.at (found_at found c.args.at) c.requires.table.there
    (slice_get-get_or found c.args.at (0, []) c.requires.at))

pub returns-in-None-clause-grown : goal.returns-in-None-clause-grown
returns-in-None-clause-grown c =
    let old = c.args.pool.now in
    let new = c.rewrite_at.new.pool in
    let found = c.args.table.now.found.items in
    let Given : Option ℕ → ℕ → Type 0 = λ given from. IsGiven new given (rewritten c.args.law c.args.place.now (term_at old from)) in
    let given = subst (λ (given : Option ℕ). Given given c.term.result) c.in-None.is c.in_ok-rewrite_at.ensures.given in
    (tried_none old new found c.args.at c.args.law c.args.place.now c.requires.at c.requires.table.there c.rewrite_at.ensures.kept
    (subst (Given None) c.term.ensures given)).0

facts : (c : In_ok-add-in-Some) →
    let new = c.rewrite_at.new.pool in
    let old = traces_of c.args.pool.now c.args.table.now.found.items in
    let more = c.add.new.self.found.items in
    AreThere new more × Grows (trace_at old c.args.at) old (traces_of new more)
    × Covers (traces_of new more) (trace_at old c.args.at) c.args.law c.args.place.now
facts c =
    let old = c.args.pool.now in
    let new = c.rewrite_at.new.pool in
    let found = c.args.table.now.found.items in
    let Given : Option ℕ → ℕ → Type 0 = λ given from. IsGiven new given (rewritten c.args.law c.args.place.now (term_at old from)) in
    let given = subst (λ (given : Option ℕ). Given given c.term.result) c.in-Some.is c.in_ok-rewrite_at.ensures.given in
    tried_some old new found c.args.at c.args.law c.args.place.now c.requires.at c.requires.table.there c.rewrite_at.ensures.kept
    c.in-Some.given c.len-count.ensures.region (subst (Given (Some c.in-Some.given)) c.term.ensures given) c.add.new.self.found.items
    ((found_at found c.args.at).1 ++ record { law = c.args.law; place = c.args.place.now } ∷ []) refl c.in_ok-add-in-Some.ensures.found

pub returns-in_ok-add-in-Some-clause-table : goal.returns-in_ok-add-in-Some-clause-table
returns-in_ok-add-in-Some-clause-table c = record { there = (facts c).0; matched = c.in_ok-add-in-Some.ensures.matched }

pub returns-in_ok-add-in-Some-clause-grown : goal.returns-in_ok-add-in-Some-clause-grown
returns-in_ok-add-in-Some-clause-grown c = (facts c).1

pub returns-in_ok-add-in-Some-clause-covered : goal.returns-in_ok-add-in-Some-clause-covered
returns-in_ok-add-in-Some-clause-covered c = (facts c).2
