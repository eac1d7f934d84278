use Rattle.std.proofs.Common.{◌≤◌, length}
use Rattle.qc_pool.specs.Nodes.{term_at}
use Rattle.qc_pool.specs.Regions.{Keeps}
use Rattle.qc_rewrite.specs.Inner.Growing.{IsSearch}
use Rattle.qc_rewrite.specs.Inner.Tables.{IsTable, traces_in}
use Rattle.qc_rewrite.proofs.reached.closure_within.Given as goal

abbrev pub invariant-loop-round : goal.invariant-loop-round
invariant-loop-round l = record {
  kept : Keeps l.fn.pool l.pool;
  table : IsTable l.pool l.table;
  below : l.next ≤ length l.table.found.items;
  searched : IsSearch (term_at l.fn.pool l.fn.id) l._round l.next (length l.table.found.items) (traces_in l.pool l.table);
}
