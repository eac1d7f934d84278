use Rattle.qc_words.proofs.OperatorLemmas.{result_of-Eq, result_of-Ne, result_of-Lt, result_of-Ge, result_of-Ltu, result_of-Geu}
use Rattle.qc_words.proofs.laws.comparisons_are_complements.Goals as goal

pub returns-clause-equal : goal.returns-clause-equal
returns-clause-equal c w a b c' = result_of-Eq w a b

pub returns-clause-unequal : goal.returns-clause-unequal
returns-clause-unequal c w a b c' = result_of-Ne w a b

pub returns-clause-less : goal.returns-clause-less
returns-clause-less c w a b c' = result_of-Lt w a b

pub returns-clause-no_less : goal.returns-clause-no_less
returns-clause-no_less c w a b c' = result_of-Ge w a b

pub returns-clause-below : goal.returns-clause-below
returns-clause-below c w a b c' = result_of-Ltu w a b

pub returns-clause-not_below : goal.returns-clause-not_below
returns-clause-not_below c w a b c' = result_of-Geu w a b
