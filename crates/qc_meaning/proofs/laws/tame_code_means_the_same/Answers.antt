use Rattle.qc_meaning.specs.Law.Placings.{tame_means_the_same}
use Rattle.qc_meaning.specs.Law.Valid.{valid_suits}
use Rattle.qc_meaning.proofs.laws.tame_code_means_the_same.Goals as goal

pub returns : goal.returns
returns c = λ d valid x homes frame tame. tame_means_the_same d (valid_suits d valid) x homes frame tame
