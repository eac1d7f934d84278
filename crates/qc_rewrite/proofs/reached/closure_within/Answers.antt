use Rattle.std.proofs.Common.{arith, ◌≡◌, ◌≤◌, ℕ, suc, add-one, length, subst, sym}
use Rattle.qc_pool.specs.Law.Kept.{kept_on}
use Rattle.qc_pool.specs.Nodes.{term_at}
use Rattle.qc_rewrite.specs.Closure.{IsClosure}
use Rattle.qc_rewrite.specs.Inner.Growing.{IsSearch}
use Rattle.qc_rewrite.specs.Inner.Tables.{traces_in}
use Rattle.qc_rewrite.proofs.Searching.{next_round, search_ends}
use Rattle.qc_rewrite.proofs.Trying.{length-traces}
use Rattle.qc_rewrite.proofs.reached.closure_within.Goals as goal

pub loop-round-preserved : goal.loop-round-preserved
loop-round-preserved c =
    let t = term_at c.args.pool.now c.args.id in
    let mid = traces_in c.loop-round.pool c.loop-round.table in
    let last = traces_in c.expand_all.new.pool c.expand_all.new.table in
    let round = c.loop-round._round in
    let edge = c.len-edge.result in
    let all : length c.loop-round.table.found.items ≡ edge = omega arith in
    let before = subst (λ (n : ℕ). IsSearch t round c.loop-round.next n mid) all c.loop-round.invariant.searched in
    let count = length-traces c.expand_all.new.pool c.expand_all.new.table.found.items in
    let longer = c.in_ok-expand_all.ensures.longer in
    let within : edge ≤ length last = omega (arith, count, longer) in
    let after = next_round t round edge last within (c.in_ok-expand_all.ensures.searched t round before) in
    let counted = subst (λ (n : ℕ). IsSearch t (suc round) edge n last) count after in
    record {
      kept = kept_on c.args.pool.now c.loop-round.pool c.expand_all.new.pool c.loop-round.invariant.kept c.expand_all.ensures.kept;
      table = c.in_ok-expand_all.ensures.table;
      below = omega (arith, longer);
      searched = subst (λ (n : ℕ). IsSearch t n edge (length c.expand_all.new.table.found.items) last) (sym (add-one round)) counted;
    }

pub returns-clause-closed : goal.returns-clause-closed
returns-clause-closed c =
    let t = term_at c.args.pool.now c.args.id in
    let traces = traces_in c.loop-round.pool c.loop-round.table in
    let end : c.loop-round._round ≡ c.args.steps = omega arith in
    let count = length-traces c.loop-round.pool c.loop-round.table.found.items in
    let search = subst (λ (n : ℕ). IsSearch t c.loop-round._round c.loop-round.next n traces) (sym count) c.loop-round.invariant.searched in
    subst (λ (n : ℕ). IsClosure t n traces) end (search_ends t c.loop-round._round c.loop-round.next traces search)
