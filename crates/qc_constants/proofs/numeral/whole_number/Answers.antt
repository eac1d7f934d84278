use Rattle.std.proofs.Common.{sym, ap}
use Rattle.qc_constants.specs.Inner.DigitRuns.{is_canonical}
use Rattle.qc_constants.proofs.Numerals.{canonical_decimal, read_some, read_none}
use Rattle.qc_constants.proofs.numeral.whole_number.Goals as goal

pub returns-then-not-is_canonical-clause-none : goal.returns-then-not-is_canonical-clause-none
returns-then-not-is_canonical-clause-none c =
    λ none n small e. cc (c.if-not-is_canonical.ensures, ap is_canonical e, canonical_decimal n small)

pub returns-clause-some : goal.returns-clause-some
returns-clause-some c =
    read_some c.args.digits.now c.number_of_digits.result c.requires (sym c.if-not-is_canonical.ensures) c.number_of_digits.ensures

pub returns-clause-none : goal.returns-clause-none
returns-clause-none c = read_none c.args.digits.now c.number_of_digits.result c.number_of_digits.ensures
