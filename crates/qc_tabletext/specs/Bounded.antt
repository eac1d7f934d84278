-- The bounds that a text of tables gives: heights from 1 to 4, and at most 3 laws.
use Rattle.std.specs.Prelude.{◌≤◌}
use Rattle.qc_tabletext.specs.declared.syntax.Version.{Version}
use Rattle.qc_tabletext.specs.declared.syntax.Version.TheVariants.{First, Second}
use Rattle.qc_tabletext.specs.declared.syntax.RawTables.{RawTables}

abbrev pub IsBoundedVersion : Version → Type 0
IsBoundedVersion (First token) = Unit {0}
IsBoundedVersion (Second token height laws) = (1 ≤ height.value) × (height.value ≤ 4) × (laws.value ≤ 3)

-- the bounds of a text, if it gives any, are within these
abbrev pub IsBounded : RawTables → Type 0
IsBounded raw = IsBoundedVersion raw.version
