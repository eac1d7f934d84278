-- Expressions of two kinds that come to the same, where uses are by shapes in one of them.
use Rattle.std.specs.Prelude.{ℕ, ◌≡◌, List, [], Some, map, slice_get}
use Rattle.qc_bodies.specs.declared.shape.Shape.{Shape}
use Rattle.qc_bodies.specs.Trees.{Core, one}
use Rattle.qc_bodies.specs.Meanings.{Meaning, value}
use Rattle.qc_bodies.specs.Shapes.{AreShapes, IsShape}
use Rattle.qc_bodies.specs.Written.{written}

abbrev pub SameValue : List Shape → Core one → Core one → Type 0
SameValue shapes plain normal = (own ms : List (Meaning (Core one))) → AreShapes own shapes ms → (es : List (Core one))
    → value written own [] es normal ≡ value written ms [] es plain

abbrev pub SameValues : List Shape → List (Core one) → List (Core one) → Type 0
SameValues shapes plains normals = (own ms : List (Meaning (Core one))) → AreShapes own shapes ms → (es : List (Core one))
    → map (value written own [] es) normals ≡ map (value written ms [] es) plains

-- the use of what has a shape
abbrev pub SameUse : List Shape → Shape → List (Core one) → Core one → Type 0
SameUse shapes shape plains normal = (own ms : List (Meaning (Core one))) → AreShapes own shapes ms
    → (m : Meaning (Core one)) → IsShape own shape m → (es : List (Core one))
    → value written own [] es normal ≡ m.value [] (map (value written ms [] es) plains)

-- what is declared comes to this expression
abbrev pub ComesTo : List (Meaning (Core one)) → Meaning (Core one) → Core one → Type 0
ComesTo own m e = (es : List (Core one)) → m.value [] es ≡ value written own [] es e

-- what is declared at a number still is
abbrev pub Stay : List (Meaning (Core one)) → List (Meaning (Core one)) → Type 0
Stay old new = (number : ℕ) (m : Meaning (Core one)) → slice_get old number ≡ Some m → slice_get new number ≡ Some m
