use Rattle.qc_text.proofs.Cuts.{one_bad_byte, no_bad_byte}
use Rattle.qc_text.proofs.laws.one_bad_byte.Goals as goal

pub returns-clause-one : goal.returns-clause-one
returns-clause-one c = one_bad_byte

pub returns-clause-none : goal.returns-clause-none
returns-clause-none c = no_bad_byte
