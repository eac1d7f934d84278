use Rattle.qc_core.proofs.laws.valid_descriptions_have_names.Goals as goal

pub returns : goal.returns
returns c = λ d valid. valid.names
