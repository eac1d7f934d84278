-- What goes to the operands of operators and comes from there holds of a term and of what a law gives for it, or of neither.
use Rattle.std.proofs.Common.{◌≡◌, ◌∙◌, refl, sym, subst, Option, None, Some}
use Rattle.std.specs.Option.{option_map}
use Rattle.qc_terms.specs.Tree.{Tree}
use Rattle.qc_equations.specs.declared.names.Law.{Law}
use Rattle.qc_equations.specs.Law.Fill.{GoesDown, GoesUp, from_parts, to_parts}
use Rattle.qc_equations.specs.Law.Found.{found}
use Rattle.qc_equations.specs.Law.Rows.{left_side, right_side, same_parts}
use Rattle.qc_equations.specs.Matching.{parts_of}
use Rattle.qc_equations.specs.Pattern.{Parts, fill}
use Rattle.qc_equations.specs.Table.{equation_of, gives}

-- from one side of a law to the other
pub carried : (Holds : Tree → Type 0) → GoesDown Holds → GoesUp Holds → (law : Law) (parts : Parts) →
    Holds (fill (left_side law) parts) → Holds (fill (right_side law) parts)
carried Holds down up law parts holds =
    from_parts Holds up (right_side law) parts
    (λ x used. to_parts Holds down (left_side law) parts holds x (sym (same_parts law x) ∙ used))

pub carried_back : (Holds : Tree → Type 0) → GoesDown Holds → GoesUp Holds → (law : Law) (parts : Parts) →
    Holds (fill (right_side law) parts) → Holds (fill (left_side law) parts)
carried_back Holds down up law parts holds =
    from_parts Holds up (left_side law) parts
    (λ x used. to_parts Holds down (right_side law) parts holds x (same_parts law x ∙ used))

-- the parts over which both terms stand
record AreSides (law : Law) (t u : Tree) : Type 0 where
  parts : Parts
  left : fill (left_side law) parts ≡ t
  right : fill (right_side law) parts ≡ u

sides : (law : Law) (t u : Tree) → gives law t ≡ Some u → AreSides law t u
sides law t u given = go (parts_of (equation_of law).left t) refl given
  where
    go : (it : Option Parts) → parts_of (equation_of law).left t ≡ it → option_map (fill (right_side law)) it ≡ Some u →
        AreSides law t u
    go None is given = cc
    go (Some parts) is given =
        let it = found (equation_of law).left t parts is in record { parts = parts; left = it.whole; right = cc }

-- from a term to what a law gives for it, and back
pub gives-carries : (Holds : Tree → Type 0) → GoesDown Holds → GoesUp Holds → (law : Law) (t u : Tree) → gives law t ≡ Some u →
    Holds t → Holds u
gives-carries Holds down up law t u given holds =
    let both = sides law t u given in
    subst Holds both.right (carried Holds down up law both.parts (subst Holds (sym both.left) holds))

pub gives-carries-back : (Holds : Tree → Type 0) → GoesDown Holds → GoesUp Holds → (law : Law) (t u : Tree) →
    gives law t ≡ Some u → Holds u → Holds t
gives-carries-back Holds down up law t u given holds =
    let both = sides law t u given in
    subst Holds both.left (carried_back Holds down up law both.parts (subst Holds (sym both.right) holds))
