-- The right side of a law can stand over the parts of a term that the law matches.
use Rattle.std.proofs.Common.{rules, arith, ◌≡◌, sym, ap, subst, ℕ, ◌<◌, ◌≤◌, ◌-◌, Some}
use Rattle.std.specs.Option.{option_map}
use Rattle.qc_words.specs.Width.{IsWidth}
use Rattle.qc_terms.specs.Tree.{Tree, width_of}
use Rattle.qc_pool.specs.Widths.{HasWidths}
use Rattle.qc_equations.specs.declared.names.Law.{Law}
use Rattle.qc_equations.specs.declared.names.Law.TheVariants.{Split8, Split12, Split16, Part8, Part12, Part16, ZxCom, AndZx}
use Rattle.qc_equations.specs.Law.Found.{Within, found, suits-within}
use Rattle.qc_equations.specs.Law.Widths.{gives-holds}
use Rattle.qc_equations.specs.Matching.{parts_of}
use Rattle.qc_equations.specs.Pattern.{Parts, Pattern, fill}
use Rattle.qc_equations.specs.Table.{equation_of, parted, split}
use Rattle.qc_equations.specs.Turning.{left_pattern}
use Rattle.qc_laws.specs.Inner.Spelling.{AllHaveWords, CanStand}
use Rattle.qc_laws.specs.Law.Widths.{by_widths}

split_words : (word size : ℕ) → IsWidth size → IsWidth (word - size) → AllHaveWords split word size
split_words word size low high = search (rules, low, high)

parted_words : (word size : ℕ) → IsWidth size → IsWidth (word - size) → AllHaveWords parted word size
parted_words word size low high = search (rules, low, high)

-- a constant is taken apart into words, where both parts have to be words
constant_fits : (right : Pattern) → ((word size : ℕ) → IsWidth size → IsWidth (word - size) → AllHaveWords right word size) → (bits : ℕ)
    (parts : Parts) → IsWidth (width_of parts.a) → parts.size ≤ 64 → (parts.size ≡ bits) × (bits < width_of parts.a) → 1 ≤ bits →
    AllHaveWords right (width_of parts.a) parts.size
constant_fits right words bits parts word size within some =
    words (width_of parts.a) parts.size (omega (arith, within.0), size)
    (omega (arith, within.0, within.1), omega (arith, word.1))

words_fit : (law : Law) (parts : Parts) → IsWidth (width_of parts.a) → parts.size ≤ 64 →
    Within (equation_of law).left (width_of parts.a) parts.size → HasWidths (fill (left_pattern (equation_of law).left) parts) →
    AllHaveWords (equation_of law).right (width_of parts.a) parts.size
words_fit Split8 parts word size within widths = constant_fits split split_words 8 parts word size within (omega arith)
words_fit Split12 parts word size within widths = constant_fits split split_words 12 parts word size within (omega arith)
words_fit Split16 parts word size within widths = constant_fits split split_words 16 parts word size within (omega arith)
words_fit Part8 parts word size within widths = constant_fits parted parted_words 8 parts word size within (omega arith)
words_fit Part12 parts word size within widths = constant_fits parted parted_words 12 parts word size within (omega arith)
words_fit Part16 parts word size within widths = constant_fits parted parted_words 16 parts word size within (omega arith)
words_fit ZxCom parts word size within widths =
    let wide : IsWidth parts.size = (omega (arith, word.0, widths.1), size) in ((wide, tt), wide)
words_fit AndZx parts word size within widths = (tt, ((within.0, size), tt))
words_fit _ parts word size within widths = search rules

pub can_stand : (law : Law) (t : Tree) (parts : Parts) → HasWidths t → parts.size ≤ 64 → parts_of (equation_of law).left t ≡ Some parts →
    CanStand (equation_of law).right parts
can_stand law t parts widths size is =
    let it = found (equation_of law).left t parts is in
    record {
      words = words_fit law parts it.width size (suits-within (equation_of law).left parts it.suits) (subst HasWidths (sym it.whole) widths);
      widths = gives-holds HasWidths by_widths law t (fill (equation_of law).right parts)
          (ap (option_map (fill (equation_of law).right)) is) widths;
    }
