-- What the uses of functions are, among functions that have something of their own.
use Rattle.std.specs.Prelude.{ℕ, ◌≡◌, List, [], Some, slice_get}
use Rattle.std.specs.List.{AllZip}
use Rattle.qc_bodies.specs.declared.functions.Functions.{Functions}
use Rattle.qc_bodies.specs.declared.shape.Shape.{Shape}
use Rattle.qc_bodies.specs.declared.shape.Shape.TheVariants as shape
use Rattle.qc_bodies.specs.Trees.{Core, one}
use Rattle.qc_bodies.specs.Meanings.{Meaning, meanings}
use Rattle.qc_bodies.specs.Nodes.{placed}
use Rattle.qc_bodies.specs.Normals.{at_places, functions_of}
use Rattle.qc_bodies.specs.Written.{written}

-- the use of a function, where these are the functions that have something of their own
pub record IsUseOf (ms : List (Meaning (Core one))) (number : ℕ) (needed chosen : List ℕ) (m : Meaning (Core one)) : Type 0 where
  pub function : Meaning (Core one)
  pub is : slice_get ms number ≡ Some function
  pub same : (es : List (Core one)) → m.value [] es ≡ function.value [] (at_places (at_places es needed) chosen)

abbrev pub IsShape : List (Meaning (Core one)) → Shape → Meaning (Core one) → Type 0
IsShape ms (shape.Argument number) m = (es : List (Core one)) → m.value [] es ≡ placed es number
IsShape ms (shape.Function number needed chosen) m = IsUseOf ms number needed chosen m

abbrev pub AreShapes : List (Meaning (Core one)) → List Shape → List (Meaning (Core one)) → Type 0
AreShapes own shapes ms = AllZip (IsShape own) shapes ms

-- These are the functions that were declared, in order.
abbrev pub AreFunctions : Functions → List (Meaning (Core one)) → Type 0
AreFunctions functions ms = AreShapes (meanings written (functions_of functions.normals)) functions.shapes ms
