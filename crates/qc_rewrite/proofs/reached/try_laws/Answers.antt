use Rattle.std.proofs.Common.{arith, ◌<◌, ℕ, get_or, length, subst}
use Rattle.std.proofs.Common.{below_more}
use Rattle.qc_equations.specs.declared.names.Law.TheVariants.{AddZero}
use Rattle.qc_equations.specs.declared.names.Law.{Law}
use Rattle.qc_laws.specs.Names.{laws}
use Rattle.qc_pool.specs.Law.Kept.{kept_on}
use Rattle.qc_rewrite.specs.Inner.Growing.{Covers, trace_at}
use Rattle.qc_rewrite.specs.Inner.Tables.{traces_in}
use Rattle.qc_rewrite.proofs.Each.{each_law}
use Rattle.qc_rewrite.proofs.Trying.{grown-length, grown_more, just_covered, length-traces, still_covered}
use Rattle.qc_rewrite.proofs.reached.try_laws.Goals as goal

pub loop-law-preserved : goal.loop-law-preserved
loop-law-preserved c =
    let first = traces_in c.args.pool.now c.args.table.now in
    let mid = traces_in c.loop-law.pool c.loop-law.table in
    let last = traces_in c.try_law.new.pool c.try_law.new.table in
    let within : c.args.at < length first = omega (arith, length-traces c.args.pool.now c.args.table.now.found.items) in
    let before = c.loop-law.invariant.grown in
    let step = c.in_ok-try_law.ensures.grown in
    let Done : ℕ → Type 0 = λ k. Covers last (trace_at first c.args.at) (get_or laws k AddZero) c.args.place.now in
    record {
      kept = kept_on c.args.pool.now c.loop-law.pool c.try_law.new.pool c.loop-law.invariant.kept c.try_law.ensures.kept;
      table = c.in_ok-try_law.ensures.table;
      within = omega (
        arith,
        grown-length (trace_at mid c.args.at) mid last step,
        length-traces c.loop-law.pool c.loop-law.table.found.items,
        length-traces c.try_law.new.pool c.try_law.new.table.found.items,
      );
      grown = grown_more first mid last c.args.at within before step;
      covered = below_more Done c.loop-law.law-index
          (λ k below. still_covered first mid last c.args.at within before step (get_or laws k AddZero) c.args.place.now
          (c.loop-law.invariant.covered k below))
          (just_covered first mid last c.args.at within before step (get_or laws c.loop-law.law-index AddZero) c.args.place.now
          c.in_ok-try_law.ensures.covered);
    }

pub returns-clause-covered : goal.returns-clause-covered
returns-clause-covered c law =
    let it = each_law law in
    let Done : Law → Type 0 = λ l. Covers (traces_in c.loop-law.pool c.loop-law.table)
    (trace_at (traces_in c.args.pool.now c.args.table.now) c.args.at) l c.args.place.now in
    subst Done it.2 (c.loop-law.invariant.covered it.0 (omega (arith, it.1)))
