use Rattle.qc_words.proofs.OperatorLemmas.{result_of-Ne, result_of-Ge, result_of-Geu}
use Rattle.qc_words.proofs.laws.comparisons_have_opposites.Goals as goal

pub returns-clause-equal : goal.returns-clause-equal
returns-clause-equal c = result_of-Ne

pub returns-clause-signed : goal.returns-clause-signed
returns-clause-signed c = result_of-Ge

pub returns-clause-unsigned : goal.returns-clause-unsigned
returns-clause-unsigned c = result_of-Geu
