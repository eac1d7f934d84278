use Rattle.qc_words.specs.Law.Results.{result_of-lt}
use Rattle.qc_words.proofs.laws.results_are_words.Goals as goal

pub returns : goal.returns
returns c = result_of-lt
