use Rattle.std.proofs.Common.{ℕ, ◌≤◌, length}
use Rattle.qc_terms.specs.Tree.{Tree}
use Rattle.qc_pool.specs.Regions.{Keeps}
use Rattle.qc_rewrite.specs.Inner.Growing.{IsSearch}
use Rattle.qc_rewrite.specs.Inner.Tables.{IsTable, traces_in}
use Rattle.qc_rewrite.proofs.reached.expand_all.Given as goal

abbrev pub invariant-loop-at : goal.invariant-loop-at
invariant-loop-at l = record {
  kept : Keeps l.fn.pool l.pool;
  table : IsTable l.pool l.table;
  longer : length l.fn.table.found.items ≤ length l.table.found.items;
  searched : (t : Tree) (round : ℕ) → IsSearch t round l.next l.edge (traces_in l.fn.pool l.fn.table) → IsSearch t round l.at l.edge (traces_in l.pool l.table);
}
