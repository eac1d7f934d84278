use Rattle.std.proofs.Common.{arith, ◌≡◌, ◌<◌, ◌∙◌, ℕ, List, [], get_or, length, refl, subst, sym, ap}
use Rattle.std.proofs.Common.{below_more}
use Rattle.std.proofs.lemmas.Option.{slice_get-get_or, slice_get_read, get_or_from_slice_get}
use Rattle.qc_equations.specs.declared.names.Law.{Law}
use Rattle.qc_equations.specs.Steps.{rewritten}
use Rattle.qc_pool.specs.Law.Kept.{kept_on}
use Rattle.qc_pool.specs.Nodes.{term_at}
use Rattle.qc_rewrite.specs.Closure.{Trace}
use Rattle.qc_rewrite.specs.Inner.Growing.{Covers, trace_at}
use Rattle.qc_rewrite.specs.Inner.Places.{places_from}
use Rattle.qc_rewrite.specs.Inner.Tables.{found_at, traces_in}
use Rattle.qc_rewrite.proofs.Each.{each_place}
use Rattle.qc_rewrite.proofs.Trying.{grown-length, grown_more, just_covered, length-traces, still_covered, there_at, trace_is}
use Rattle.qc_rewrite.proofs.reached.expand.Goals as goal

pub places-requires : goal.places-requires
places-requires c =
    let found = c.args.table.now.found.items in
    subst (λ (n : ℕ). n < length c.args.pool.now) (sym c.term.ensures)
    (there_at c.args.pool.now found c.args.at (found_at found c.args.at) c.requires.table.there
    (slice_get-get_or found c.args.at (0, []) c.requires.at))

pub loop-place-preserved : goal.loop-place-preserved
loop-place-preserved c =
    let first = traces_in c.args.pool.now c.args.table.now in
    let mid = traces_in c.loop-place.pool c.loop-place.table in
    let last = traces_in c.try_laws.new.pool c.try_laws.new.table in
    let within : c.args.at < length first = omega (arith, length-traces c.args.pool.now c.args.table.now.found.items) in
    let before = c.loop-place.invariant.grown in
    let step = c.in_ok-try_laws.ensures.grown in
    let items = c.as_slice-place-items.result.now in
    let Done : ℕ → Type 0 = λ k. (law : Law) → Covers last (trace_at first c.args.at) law (get_or items k []) in
    let index = c.loop-place.place-index in
    let at_index : c.place-item.result ≡ get_or items index [] =
    sym (get_or_from_slice_get items index c.place-item.result []
    (slice_get_read items (length items) index c.place-item.result refl c.loop-place-test.true c.place-item.is)) in
    record {
      kept = kept_on c.args.pool.now c.loop-place.pool c.try_laws.new.pool c.loop-place.invariant.kept c.try_laws.ensures.kept;
      table = c.in_ok-try_laws.ensures.table;
      within = omega (
        arith,
        grown-length (trace_at mid c.args.at) mid last step,
        length-traces c.loop-place.pool c.loop-place.table.found.items,
        length-traces c.try_laws.new.pool c.try_laws.new.table.found.items,
      );
      grown = grown_more first mid last c.args.at within before step;
      covered = below_more Done c.loop-place.place-index
          (λ k below law. still_covered first mid last c.args.at within before step law (get_or items k [])
          (c.loop-place.invariant.covered k below law))
          (λ law. just_covered first mid last c.args.at within before step law (get_or items index [])
          (subst (λ (place : List ℕ). Covers last (trace_at mid c.args.at) law place) (c.as_slice.ensures ∙ at_index)
          (c.in_ok-try_laws.ensures.covered law)));
    }

pub returns-clause-covered : goal.returns-clause-covered
returns-clause-covered c law place u is =
    let found = c.args.table.now.found.items in
    let old = c.args.pool.now in
    let t = term_at old c.term.result in
    let from : (trace_at (traces_in old c.args.table.now) c.args.at).term ≡ t =
    ap (λ (r : Trace). r.term) (trace_is old found c.args.at c.requires.at) ∙ ap (term_at old) (sym c.term.ensures) in
    let it = each_place law place t u (ap (rewritten law place) (sym from) ∙ is) in
    let items = c.as_slice-place-items.result.now in
    let whole : items ≡ places_from [] t = c.as_slice-place-items.ensures ∙ c.in_ok-places.ensures in
    let below : it.0 < c.loop-place.place-index = omega (arith, it.1, ap length whole, c.loop-place-test.false) in
    let same : get_or items it.0 [] ≡ place = ap (λ ps. get_or ps it.0 []) whole ∙ it.2 in
    subst (λ (p : List ℕ). Covers (traces_in c.loop-place.pool c.loop-place.table) (trace_at (traces_in old c.args.table.now) c.args.at) law p)
    same (c.loop-place.invariant.covered it.0 below law) u is
