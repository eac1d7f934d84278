use Rattle.std.proofs.Common.{arith, ◌<◌, length, slice_index_or, subst, ℕ, Option}
use Rattle.qc_equations.specs.Steps.{rewritten}
use Rattle.qc_laws.specs.Given.{IsGiven}
use Rattle.qc_pool.specs.Nodes.{term_at}
use Rattle.qc_rewrite.proofs.PartLemmas.{fits_below, given_above, kept_above, tail_of, whole_place}
use Rattle.qc_rewrite.proofs.place.+rewrite_within.Goals as goal

pub put_part-requires-clause-width : goal.put_part-requires-clause-width
put_part-requires-clause-width t c =
    let place = c.args.place.now in
    let mid = c.rewrite_within.new.pool in
    let some : 0 < length place = omega arith in
    let Given : Option ℕ → Type 0 = λ given. IsGiven mid given (rewritten c.args.law (tail_of place) (term_at c.args.pool.now c.in-Some.old)) in
    fits_below c.args.pool.now mid c.args.law place (tail_of place) (slice_index_or place 0 0) c.args.id c.in-Some.old c.in-Some-2.new
    (whole_place place some) c.requires c.in-Some.ensures.part c.rewrite_within.ensures.kept
    (subst Given c.in-Some-2.is c.in_ok-rewrite_within-in-Some.ensures.given) c.width-width.ensures.fits

pub returns-in_ok-put_part-in-Some-2-clause-given : goal.returns-in_ok-put_part-in-Some-2-clause-given
returns-in_ok-put_part-in-Some-2-clause-given t c =
    let place = c.args.place.now in
    let mid = c.rewrite_within.new.pool in
    let some : 0 < length place = omega arith in
    let Given : Option ℕ → Type 0 = λ given. IsGiven mid given (rewritten c.args.law (tail_of place) (term_at c.args.pool.now c.in-Some.old)) in
    given_above c.args.pool.now mid c.args.law place (tail_of place) (slice_index_or place 0 0) c.args.id c.in-Some.old c.in-Some-2.new
    (whole_place place some) c.requires c.in-Some.ensures.part c.rewrite_within.ensures.kept
    (subst Given c.in-Some-2.is c.in_ok-rewrite_within-in-Some.ensures.given) c.put_part.new.pool c.in_ok-put_part-in-Some-2.field-0
    c.in_ok-put_part-in-Some-2.ensures.added

pub returns-in_ok-put_part-in-Some-2-clause-kept : goal.returns-in_ok-put_part-in-Some-2-clause-kept
returns-in_ok-put_part-in-Some-2-clause-kept t c =
    let place = c.args.place.now in
    let mid = c.rewrite_within.new.pool in
    let some : 0 < length place = omega arith in
    let Given : Option ℕ → Type 0 = λ given. IsGiven mid given (rewritten c.args.law (tail_of place) (term_at c.args.pool.now c.in-Some.old)) in
    kept_above c.args.pool.now mid c.args.law place (tail_of place) (slice_index_or place 0 0) c.args.id c.in-Some.old c.in-Some-2.new
    (whole_place place some) c.requires c.in-Some.ensures.part c.rewrite_within.ensures.kept
    (subst Given c.in-Some-2.is c.in_ok-rewrite_within-in-Some.ensures.given) c.put_part.new.pool c.in_ok-put_part-in-Some-2.field-0
    c.in_ok-put_part-in-Some-2.ensures.added
