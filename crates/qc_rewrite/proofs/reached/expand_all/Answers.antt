use Rattle.std.proofs.Common.{arith, ◌≡◌, ◌<◌, ◌≤◌, ℕ, add-one, length, subst, sym}
use Rattle.qc_pool.specs.Law.Kept.{kept_on}
use Rattle.qc_rewrite.specs.Inner.Growing.{IsSearch, trace_at}
use Rattle.qc_rewrite.specs.Inner.Tables.{traces_in}
use Rattle.qc_rewrite.proofs.Searching.{one_more}
use Rattle.qc_rewrite.proofs.Trying.{grown-length, length-traces}
use Rattle.qc_rewrite.proofs.reached.expand_all.Goals as goal

pub loop-at-preserved : goal.loop-at-preserved
loop-at-preserved c =
    let mid = traces_in c.loop-at.pool c.loop-at.table in
    let last = traces_in c.expand.new.pool c.expand.new.table in
    let step = c.in_ok-expand.ensures.grown in
    let count = length-traces c.loop-at.pool c.loop-at.table.found.items in
    let below : c.loop-at.at < c.args.edge = omega arith in
    let edge : c.args.edge ≤ length mid = omega (arith, count) in
    record {
      kept = kept_on c.args.pool.now c.loop-at.pool c.expand.new.pool c.loop-at.invariant.kept c.expand.ensures.kept;
      table = c.in_ok-expand.ensures.table;
      longer = omega (
        arith,
        grown-length (trace_at mid c.loop-at.at) mid last step,
        count,
        length-traces c.expand.new.pool c.expand.new.table.found.items,
      );
      searched = λ t round search.
          subst (λ (n : ℕ). IsSearch t round n c.args.edge last) (sym (add-one c.loop-at.at))
          (one_more t round c.loop-at.at c.args.edge mid last below edge step c.in_ok-expand.ensures.covered
          (c.loop-at.invariant.searched t round search));
    }

pub returns-clause-searched : goal.returns-clause-searched
returns-clause-searched c t round search =
    let e : c.loop-at.at ≡ c.args.edge = omega arith in
    subst (λ (n : ℕ). IsSearch t round n c.args.edge (traces_in c.loop-at.pool c.loop-at.table)) e (c.loop-at.invariant.searched t round search)
