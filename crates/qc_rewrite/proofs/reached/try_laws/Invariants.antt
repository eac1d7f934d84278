use Rattle.std.proofs.Common.{ℕ, ◌<◌, get_or, length}
use Rattle.qc_equations.specs.declared.names.Law.TheVariants.{AddZero}
use Rattle.qc_laws.specs.Names.{laws}
use Rattle.qc_pool.specs.Regions.{Keeps}
use Rattle.qc_rewrite.specs.Inner.Growing.{Covers, Grows, trace_at}
use Rattle.qc_rewrite.specs.Inner.Tables.{IsTable, traces_in}
use Rattle.qc_rewrite.proofs.reached.try_laws.Given as goal

abbrev pub invariant-loop-law : goal.invariant-loop-law
invariant-loop-law l = record {
  kept : Keeps l.fn.pool l.pool;
  table : IsTable l.pool l.table;
  within : l.at < length l.table.found.items;
  grown : Grows (trace_at (traces_in l.fn.pool l.fn.table) l.at) (traces_in l.fn.pool l.fn.table) (traces_in l.pool l.table);
  covered : (k : ℕ) → k < l.law-index → Covers (traces_in l.pool l.table) (trace_at (traces_in l.fn.pool l.fn.table) l.at) (get_or laws k AddZero) l.place;
}
