-- What goes by widths holds of the term that a law gives where it holds of the one that the law matches, and both have one
-- width.
use Rattle.std.proofs.Common.{◌≡◌, ◌∙◌, ap, refl, sym, subst, Option, None, Some}
use Rattle.std.specs.Option.{option_map}
use Rattle.qc_words.specs.Width.{IsWidth}
use Rattle.qc_terms.specs.State.{Context}
use Rattle.qc_terms.specs.Tree.{Tree, width_of}
use Rattle.qc_terms.specs.Typing.{IsTyped}
use Rattle.qc_equations.specs.declared.names.Law.{Law}
use Rattle.qc_equations.specs.Law.Fill.{GoesByWidths, HaveOneWidth, fill-typed, fill-width, pattern-typed, to_parts, widths_down}
use Rattle.qc_equations.specs.Law.Found.{Within, agrees, found, suits-within}
use Rattle.qc_equations.specs.Law.Rows.{left_side, nests, right_side, row_typed, same_parts, same_width}
use Rattle.qc_equations.specs.Matching.{parts_of}
use Rattle.qc_equations.specs.Pattern.{Parts, fill}
use Rattle.qc_equations.specs.Table.{equation_of, gives}

pub typed_by_widths : (context : Context) → GoesByWidths (IsTyped context)
typed_by_widths context = record {
  number = λ value width fits. fits;
  number_fits = λ value width typed. typed;
  unary = λ op arg typed. typed;
  unary_parts = λ op arg typed. typed;
  binary = λ op left right typed. typed;
  binary_parts = λ op left right typed. typed;
}

pub sides-hold : (Holds : Tree → Type 0) → GoesByWidths Holds → (law : Law) (parts : Parts) → IsWidth (width_of parts.a) →
    Within (equation_of law).left (width_of parts.a) parts.size → HaveOneWidth parts → Holds (fill (left_side law) parts) →
    Holds (fill (right_side law) parts)
sides-hold Holds by law parts word within one holds =
    fill-typed Holds by (right_side law) parts one
    (row_typed law (width_of parts.a) parts.size word within (pattern-typed Holds by (left_side law) parts one holds))
    (λ x used. to_parts Holds (widths_down Holds by) (left_side law) parts holds x (sym (same_parts law x) ∙ used))

pub sides-width : (law : Law) (parts : Parts) → HaveOneWidth parts →
    width_of (fill (right_side law) parts) ≡ width_of (fill (left_side law) parts)
sides-width law parts one =
    fill-width (right_side law) parts one ∙ same_width law (width_of parts.a) parts.size ∙ sym (fill-width (left_side law) parts one)

pub gives-holds : (Holds : Tree → Type 0) → GoesByWidths Holds → (law : Law) (t u : Tree) → gives law t ≡ Some u → Holds t → Holds u
gives-holds Holds by law t u given holds = go (parts_of (equation_of law).left t) refl given
  where
    go : (it : Option Parts) → parts_of (equation_of law).left t ≡ it → option_map (fill (right_side law)) it ≡ Some u → Holds u
    go None is given = cc
    go (Some parts) is given =
        let it = found (equation_of law).left t parts is in
        let e : fill (right_side law) parts ≡ u = cc in
        subst Holds e
        (sides-hold Holds by law parts it.width (suits-within (equation_of law).left parts it.suits)
        (it.widths (nests law) (agrees Holds by t holds)) (subst Holds (sym it.whole) holds))

pub gives-width : (Holds : Tree → Type 0) → GoesByWidths Holds → (law : Law) (t u : Tree) → gives law t ≡ Some u → Holds t →
    width_of u ≡ width_of t
gives-width Holds by law t u given holds = go (parts_of (equation_of law).left t) refl given
  where
    go : (it : Option Parts) → parts_of (equation_of law).left t ≡ it → option_map (fill (right_side law)) it ≡ Some u →
        width_of u ≡ width_of t
    go None is given = cc
    go (Some parts) is given =
        let it = found (equation_of law).left t parts is in
        let e : fill (right_side law) parts ≡ u = cc in
        let one = it.widths (nests law) (agrees Holds by t holds) in
        sym (ap width_of e) ∙ sides-width law parts one ∙ ap width_of it.whole
