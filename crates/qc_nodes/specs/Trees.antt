-- What stands before other trees: that of a child, or nothing.
use Rattle.std.specs.Prelude.{Option, None, Some}
use Rattle.qc_derivations.specs.declared.derivation.Derivation.{Derivation}
use Rattle.qc_derivations.specs.Forest.{Forest, grows_of}

abbrev pub grows_before : Option Derivation → Forest → Forest
grows_before None rest = rest
grows_before (Some d) rest = grows_of d rest
