use Rattle.std.proofs.Common.{◌≡◌, length}
use Rattle.qc_rows_code.proofs.Nones.{AreNone}
use Rattle.qc_rows_code.proofs.templates.no_templates.Given as goal

abbrev pub invariant-loop-tile : goal.invariant-loop-tile
invariant-loop-tile l = record { count : length l.list.items ≡ l._tile-index; none : AreNone l.list.items }
